use Rattle.apl_defn.proofs.Headings as headings
use Rattle.apl_defn.proofs.laws.headers.Goals as goal

pub returns-clause-read : goal.returns-clause-read
returns-clause-read c = headings.read (record { spelled = c.one_reading.ensures.spelled; spells = c.one_reading.ensures.spells })

pub returns-clause-reads : goal.returns-clause-reads
returns-clause-reads c = headings.reads (record { spelled = c.one_reading.ensures.spelled; spells = c.one_reading.ensures.spells })

pub returns-clause-twice : goal.returns-clause-twice
returns-clause-twice c = headings.twice (record { spelled = c.one_reading.ensures.spelled; spells = c.one_reading.ensures.spells })

pub returns-clause-is_twice : goal.returns-clause-is_twice
returns-clause-is_twice c = headings.is_twice (record { spelled = c.one_reading.ensures.spelled; spells = c.one_reading.ensures.spells })

pub returns-clause-none : goal.returns-clause-none
returns-clause-none c = headings.none (record { spelled = c.one_reading.ensures.spelled; spells = c.one_reading.ensures.spells })

pub returns-clause-is_none : goal.returns-clause-is_none
returns-clause-is_none c = headings.is_none (record { spelled = c.one_reading.ensures.spelled; spells = c.one_reading.ensures.spells })

pub returns-clause-errors : goal.returns-clause-errors
returns-clause-errors c = headings.errors

pub returns-clause-one : goal.returns-clause-one
returns-clause-one c = headings.one_heading (record { spelled = c.one_reading.ensures.spelled; spells = c.one_reading.ensures.spells })

pub returns-clause-again : goal.returns-clause-again
returns-clause-again c = headings.again (record { spelled = c.one_reading.ensures.spelled; spells = c.one_reading.ensures.spells })
