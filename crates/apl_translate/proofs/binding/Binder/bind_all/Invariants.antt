use Rattle.std.proofs.Common.{◌≡◌, ◌≤◌, ◌+◌, ◌++◌, drop}
use Rattle.std.specs.Prelude.{vec_len, vec_capacity}
use Rattle.apl_translate.specs.Binding.{items_from}
use Rattle.apl_translate.proofs.binding.Binder.bind_all.Given as goal

abbrev pub invariant-loop-token : goal.invariant-loop-token
invariant-loop-token l = record {
  items : l.items.items ++ items_from l.classes l.self (drop l.token-index l.tokens) ≡ l.fn.items.items ++ items_from l.classes l.fn.self l.tokens;
  few_constants : l.self.constants ≤ l.fn.self.constants + l.token-index;
  few_names : l.self.names ≤ l.fn.self.names + l.token-index;
  few_items : vec_len l.items ≤ vec_len l.fn.items + l.token-index;
  room : vec_capacity l.items ≡ vec_capacity l.fn.items;
}
