use Rattle.apl_scalar.proofs.function.Dyadic.at_places.Goals as goal

pub returns-in-Minus : goal.returns-in-Minus
returns-in-Minus c = rw c.in-Minus.is c.in_lanes-in-Minus.ensures

pub returns-in-Times : goal.returns-in-Times
returns-in-Times c = rw c.in-Times.is c.in_lanes-in-Times.ensures

pub returns-in-Divide : goal.returns-in-Divide
returns-in-Divide c = rw c.in-Divide.is c.divided.ensures

pub returns-in-Maximum : goal.returns-in-Maximum
returns-in-Maximum c = rw c.in-Maximum.is c.in_lanes-in-Maximum.ensures

pub returns-in-Minimum : goal.returns-in-Minimum
returns-in-Minimum c = rw c.in-Minimum.is c.in_lanes-in-Minimum.ensures

pub returns-in-Less : goal.returns-in-Less
returns-in-Less c = rw c.in-Less.is c.told.ensures

pub returns-in-NotGreater : goal.returns-in-NotGreater
returns-in-NotGreater c = rw c.in-NotGreater.is c.told-in-NotGreater.ensures

pub returns-in-Equal : goal.returns-in-Equal
returns-in-Equal c = rw c.in-Equal.is c.told-in-Equal.ensures

pub returns-in-NotEqual : goal.returns-in-NotEqual
returns-in-NotEqual c = rw c.in-NotEqual.is c.told-in-NotEqual.ensures

pub returns-in-NotLess : goal.returns-in-NotLess
returns-in-NotLess c = rw c.in-NotLess.is (rw (c.swapped.ensures.a, c.swapped.ensures.b, c.swapped.ensures.count) at c.told-in-NotLess.ensures)

pub returns-in-Greater : goal.returns-in-Greater
returns-in-Greater c = rw c.in-Greater.is (rw (c.swapped-in-Greater.ensures.a, c.swapped-in-Greater.ensures.b, c.swapped-in-Greater.ensures.count) at c.told-in-Greater.ensures)
