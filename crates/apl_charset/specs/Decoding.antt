-- The one text of a line of bytes.
use Rattle.std.specs.Prelude.{ℕ, ◌&&◌, List, Option, Some, None, if◌then◌else◌}
use Rattle.std.specs.List.{list_all}
use Rattle.std.specs.Str.{is_utf8, chars}
use Rattle.apl_charset.specs.Set.{is_member}

-- the characters of a line, where it is UTF-8 and each of them is in the set
unfoldable pub decoded : List ℕ → Option (List ℕ)
decoded line = if is_utf8 line && list_all is_member (chars line) then Some (chars line) else None
