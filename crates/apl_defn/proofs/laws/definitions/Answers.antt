use Rattle.apl_defn.proofs.Defined as defined
use Rattle.apl_defn.proofs.laws.definitions.Goals as goal

pub returns-clause-read : goal.returns-clause-read
returns-clause-read c = defined.read (record { spelled = c.one_reading.ensures.spelled; spells = c.one_reading.ensures.spells })

pub returns-clause-reads : goal.returns-clause-reads
returns-clause-reads c = defined.reads (record { spelled = c.one_reading.ensures.spelled; spells = c.one_reading.ensures.spells })

pub returns-clause-refused : goal.returns-clause-refused
returns-clause-refused c = defined.refused (record { spelled = c.one_reading.ensures.spelled; spells = c.one_reading.ensures.spells })

pub returns-clause-refuses : goal.returns-clause-refuses
returns-clause-refuses c = defined.refuses (record { spelled = c.one_reading.ensures.spelled; spells = c.one_reading.ensures.spells })

pub returns-clause-again : goal.returns-clause-again
returns-clause-again c = defined.again (record { spelled = c.one_reading.ensures.spelled; spells = c.one_reading.ensures.spells })
