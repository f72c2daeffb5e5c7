-- Pieces of a line as they are read.
use Rattle.std.proofs.Common.{◌≡◌, ◌≢◌, ◌⊎◌, inl, inr, ℕ, ◌≤◌, ◌<◌, List, [], ◌∷◌, ◌++◌, length, Bool, true, false, not, ◌==◌, ◌&&◌, refl, sym, ap, ◌∙◌, append_assoc, length-append, arith}
use Rattle.std.specs.Prelude.{Ok, Err}
use Rattle.apl_serve.specs.Answers.{most}
use Rattle.apl_serve.specs.Serving.{is_unbroken, BeginsWith, EndsLine, ReadPiece}
use Rattle.apl_serve.specs.inside.Parts.{DropsLine, ReadsRequest}
use Rattle.apl_serve.specs.declared.error.Refusal.TheVariants as refusal
use Rattle.apl_serve.specs.declared.error.ServeError.{ServeError}
use Rattle.apl_serve.specs.declared.error.ServeError.TheVariants.{Read, Write, TooMany}
use Rattle.apl_serve.specs.declared.lines.Line.TheVariants.{Dropped}

unbroken-test : (t : Bool) (xs ys : List ℕ) → not t && is_unbroken xs ≡ true → (is_unbroken xs ≡ true → is_unbroken (xs ++ ys) ≡ true)
    → not t && is_unbroken (xs ++ ys) ≡ true
unbroken-test true xs ys h ih = cc
unbroken-test false xs ys h ih = ih h

unbroken-append : (xs ys : List ℕ) → is_unbroken xs ≡ true → is_unbroken ys ≡ true → is_unbroken (xs ++ ys) ≡ true
unbroken-append [] ys h k = k
unbroken-append (b ∷ xs) ys h k = unbroken-test (b == 10) xs ys h (λ (it : is_unbroken xs ≡ true). unbroken-append xs ys it k)

unbroken-test-first : (b : ℕ) (ys : List ℕ) → b ≢ 10 → is_unbroken ys ≡ true → not (b == 10) && is_unbroken ys ≡ true
unbroken-test-first b ys other k = rw k (grind arith)

-- one byte more, and a piece behind it
pub piece-behind : (piece old mid rest new more : List ℕ) (b : ℕ) → ReadPiece piece old mid → mid ≡ b ∷ rest → b ≢ 10 → ReadPiece more rest new → ReadPiece (piece ++ b ∷ more) old new
piece-behind piece old mid rest new more b read is other behind = (
  unbroken-append piece (b ∷ more) read.0 (unbroken-test-first b more other behind.0),
  read.1 ∙ ap (λ (m : List ℕ). piece ++ m) (is ∙ ap (λ (m : List ℕ). b ∷ m) behind.1) ∙ sym (append_assoc piece (b ∷ more) new),
)

-- one byte more
pub piece-more : (piece old mid new : List ℕ) (b : ℕ) → ReadPiece piece old mid → mid ≡ b ∷ new → b ≢ 10 → ReadPiece (piece ++ b ∷ []) old new
piece-more piece old mid new b read is other = piece-behind piece old mid new new [] b read is other (refl, refl)

line-behind-read : (piece old rest new more : List ℕ) (b : ℕ) → old ≡ piece ++ b ∷ rest → (rest ≡ more ++ 10 ∷ new) ⊎ ((rest ≡ more) × (new ≡ []))
    → (old ≡ (piece ++ b ∷ more) ++ 10 ∷ new) ⊎ ((old ≡ piece ++ b ∷ more) × (new ≡ []))
line-behind-read piece old rest new more b is (inl fed) = inl (is ∙ ap (λ (m : List ℕ). piece ++ b ∷ m) fed ∙ sym (append_assoc piece (b ∷ more) (10 ∷ new)))
line-behind-read piece old rest new more b is (inr ended) = inr (is ∙ ap (λ (m : List ℕ). piece ++ b ∷ m) ended.0, ended.1)

-- some bytes stand at the start
some-append : (xs ys : List ℕ) (b : ℕ) (old : List ℕ) → old ≡ xs ++ b ∷ ys → old ≢ []
some-append [] ys b old is none = cc
some-append (x ∷ xs) ys b old is none = cc

-- a line that is dropped behind a piece
pub line-dropped : (piece old mid rest new more : List ℕ) (b : ℕ) → ReadPiece piece old mid → mid ≡ b ∷ rest → b ≢ 10 → EndsLine more rest new → BeginsWith (piece ++ b ∷ more) old new
line-dropped piece old mid rest new more b read is other ends =
    let all : old ≡ piece ++ b ∷ rest = read.1 ∙ ap (λ (m : List ℕ). piece ++ m) is in (
      record {
        unbroken = unbroken-append piece (b ∷ more) read.0 (unbroken-test-first b more other ends.unbroken);
        read = line-behind-read piece old rest new more b all ends.read;
      },
      some-append piece rest b old all,
    )

longer : (piece more : List ℕ) (b : ℕ) → length piece < length (piece ++ b ∷ more)
longer piece more b = omega (arith, length-append piece (b ∷ more))

-- What reading a request does, from what was read before the last call.

-- the rest of a request is dropped for its length
pub reads-long : (piece old mid rest new : List ℕ) (b : ℕ) → ReadPiece piece old mid → most ≤ length piece → mid ≡ b ∷ rest → b ≢ 10 → DropsLine {A = Unit {0}} rest (Ok tt) new
    → ReadsRequest old (Ok (Dropped refusal.Length)) new
reads-long piece old mid rest new b read long is other drops =
    (piece ++ b ∷ drops.0, line-dropped piece old mid rest new drops.0 b read is other drops.1, omega (arith, longer piece drops.0 b, long))

-- or for want of memory
pub reads-unkept : (piece old mid rest new : List ℕ) (b : ℕ) → ReadPiece piece old mid → mid ≡ b ∷ rest → b ≢ 10 → DropsLine {A = Unit {0}} rest (Ok tt) new
    → ReadsRequest old (Ok (Dropped refusal.Memory)) new
reads-unkept piece old mid rest new b read is other drops = (piece ++ b ∷ drops.0, line-dropped piece old mid rest new drops.0 b read is other drops.1, tt)

-- dropping it has failed
pub reads-undropped : (e : ServeError) (piece old mid rest new : List ℕ) (b : ℕ) → ReadPiece piece old mid → mid ≡ b ∷ rest → b ≢ 10 → DropsLine {A = Unit {0}} rest (Err e) new
    → ReadsRequest old (Err e) new
reads-undropped Read piece old mid rest new b read is other drops = (piece ++ b ∷ drops.0, piece-behind piece old mid rest new drops.0 b read is other drops.1)
reads-undropped TooMany piece old mid rest new b read is other drops =
    (piece ++ b ∷ drops.0, piece-behind piece old mid rest new drops.0 b read is other drops.1, omega (arith, length-append piece (b ∷ drops.0), drops.2))
reads-undropped Write piece old mid rest new b read is other drops = absurd drops
