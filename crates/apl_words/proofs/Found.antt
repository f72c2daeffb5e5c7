-- What a getter reads is what was found.
use Rattle.std.proofs.Common.{◌≡◌, ℕ, Bool, true, false, List, [], ◌∷◌, Option, Some, None, refl, cond}
use Rattle.std.specs.Prelude.{find, map, option_map, option_and_then, slice_get}
use Rattle.std.specs.Str.{bytes_eq}
use Rattle.std.specs.Borrow.{Bor}
use Rattle.clap.specs.Words.{Row, first_of, one_of, rows_of, first_value, one_text, read_as}
use Rattle.clap.specs.Walk.{row_of, row_text, texts}
use Rattle.clap.specs.Facts.{Entry}
use Rattle.clap.specs.declared.builder.value_parser.Reading.{Reading}
use Rattle.clap.specs.declared.parser.matches.Found.{Found}
use Rattle.clap.specs.declared.parser.matches.MatchedArg.{MatchedArg}

-- what is found among rows is the row of what is found among entries
found_row : (id : List ℕ) (entries : List Entry)
    → find (λ r. bytes_eq r.id id) (map row_of entries) ≡ option_map row_of (find (λ e. bytes_eq e.0.now id) entries)
found_row id [] = refl
found_row id (e ∷ rest) = one (bytes_eq e.0.now id) (found_row id rest)
  where
    one : (b : Bool) → find (λ r. bytes_eq r.id id) (map row_of rest) ≡ option_map row_of (find (λ e. bytes_eq e.0.now id) rest)
        → cond b (Some (row_of e)) (find (λ r. bytes_eq r.id id) (map row_of rest))
        ≡ option_map row_of (cond b (Some e) (find (λ e. bytes_eq e.0.now id) rest))
    one true same = refl
    one false same = same

first_text : (vals : List (Bor (List ℕ))) → slice_get (texts vals) 0 ≡ option_map (λ s. s.now) (slice_get vals 0)
first_text [] = refl
first_text (v ∷ rest) = refl

pub first_found : (f : Found) (id : List ℕ) → first_of id (rows_of f) ≡ first_value f id
first_found f id = rw (found_row id f.entries.items) (go (find (λ e. bytes_eq e.0.now id) f.entries.items))
  where
    go : (o : Option Entry) → option_and_then (λ (r : Row). slice_get r.values 0) (option_map row_of o)
        ≡ option_and_then (λ (a : MatchedArg). option_map (λ s. s.now) (slice_get a.vals.items 0)) (option_map (λ (e : Entry). e.1) o)
    go None = refl
    go (Some e) = first_text e.1.vals.items

one_read : (how : Reading) (vals : List (Bor (List ℕ)))
    → option_map (read_as how) (slice_get (texts vals) 0) ≡ option_map (λ s. read_as how s.now) (slice_get vals 0)
one_read how [] = refl
one_read how (v ∷ rest) = refl

pub one_found : (f : Found) (id : List ℕ) → one_of id (rows_of f) ≡ one_text f id
one_found f id = rw (found_row id f.entries.items) (go (find (λ e. bytes_eq e.0.now id) f.entries.items))
  where
    go : (o : Option Entry) → option_and_then row_text (option_map row_of o)
        ≡ option_and_then (λ (a : MatchedArg). option_map (λ s. read_as a.reading s.now) (slice_get a.vals.items 0)) (option_map (λ (e : Entry). e.1) o)
    go None = refl
    go (Some e) = one_read e.1.reading e.1.vals.items
