use Rattle.std.proofs.Common.{refl}
use Rattle.apl_charset.specs.Set.{is_member}
use Rattle.apl_tokens.proofs.writing.push_word.Goals as goal

pub member-requires : goal.member-requires
unfolding is_member
member-requires c = refl

pub member-requires-in-Comment : goal.member-requires-in-Comment
unfolding is_member
member-requires-in-Comment c = refl
