use Rattle.std.proofs.Common.{refl}
use Rattle.std.specs.Str.{is_utf8, chars}
use Rattle.std.specs.Char.{encode_utf8}
use Rattle.apl_charset.specs.Set.{is_member}
use Rattle.apl_charset.specs.Decoding.{decoded}
use Rattle.apl_charset.proofs.Decodings.{decoded_text, text_decoded, fault_decoded}
use Rattle.apl_charset.proofs.line.one_decoding.Goals as goal

pub returns-clause-complete : goal.returns-clause-complete
returns-clause-complete c = decoded_text

pub returns-clause-sound : goal.returns-clause-sound
returns-clause-sound c = text_decoded

pub returns-clause-fault : goal.returns-clause-fault
returns-clause-fault c = fault_decoded

pub returns-clause-row : goal.returns-clause-row
unfolding decoded is_utf8 chars encode_utf8 is_member
returns-clause-row c = refl
