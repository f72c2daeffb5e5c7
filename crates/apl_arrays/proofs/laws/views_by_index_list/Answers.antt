use Rattle.apl_arrays.proofs.ByIndex.{selected_at, reversed_at, cut_at, turned_at}
use Rattle.apl_arrays.proofs.laws.views_by_index_list.Goals as goal

pub returns-clause-selected : goal.returns-clause-selected
returns-clause-selected c = selected_at

pub returns-clause-reversed : goal.returns-clause-reversed
returns-clause-reversed c = λ a axis h i w. reversed_at a axis i h w

pub returns-clause-cut : goal.returns-clause-cut
returns-clause-cut c = λ a axis from len h k l i w. cut_at a axis from len i h k l w

pub returns-clause-turned : goal.returns-clause-turned
returns-clause-turned c = λ a axes h e i w. turned_at a axes i h e w
