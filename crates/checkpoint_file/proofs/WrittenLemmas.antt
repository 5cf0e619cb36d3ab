-- Texts written one after the other.
use Rattle.std.proofs.Common.{◌≡◌, ℕ, Bool, false, List, [], ◌++◌, Option, Some, None, refl, sym, ap, ◌∙◌, append_assoc, subst}
use Rattle.std.proofs.lemmas.List.{append-nil}
use Rattle.std.specs.Io.KnownBytes.{Appends}
use Rattle.std.specs.Prelude.{Result, Ok, Err, IsErr}
use Rattle.checkpoint_file.specs.declared.device.sink.Failed.{Failed}
use Rattle.checkpoint_file.proofs.BeginningLemmas.{appends_two, beginning_first, beginning_second}
use Rattle.checkpoint_file.specs.Lines.{seal_line}
use Rattle.checkpoint_file.specs.Written.{Puts, PutsAll, PutsSome, Writes, Wrote}
use Rattle.sha2.specs.Hashers.{Holds256}
use Rattle.sha2.specs.Sha256.{sha256}
use Rattle.sha2.specs.declared.Sha256.{Sha256}

-- all of both
pub both : (a b c : Option (List ℕ)) (f g : Bool) (h i j : Sha256) (xs ys : List ℕ) → Wrote a b f h i xs → Wrote b c g i j ys → Wrote a c g h j (xs ++ ys)
both a b c f g h i j xs ys p q = record {
  puts = record { bytes = appends_two a b c xs ys p.puts.bytes q.puts.bytes; works = q.puts.works };
  hashed = λ message holds. subst (λ (t : List ℕ). Holds256 j t) (append_assoc message xs ys) (q.hashed (message ++ xs) (p.hashed message holds));
}

-- a beginning of the first
pub first_fails : (a b : Option (List ℕ)) (f : Bool) (xs ys : List ℕ) → PutsSome a b f xs → PutsSome a b f (xs ++ ys)
first_fails a b f xs ys p = record { bytes = beginning_first a b xs ys p.bytes; fails = p.fails }

-- all of the first, and a beginning of the second
pub second_fails : (a b c : Option (List ℕ)) (f g : Bool) (h i : Sha256) (xs ys : List ℕ) → Wrote a b f h i xs → PutsSome b c g ys → PutsSome a c g (xs ++ ys)
second_fails a b c f g h i xs ys p q = record { bytes = beginning_second a b c xs ys p.puts.bytes q.bytes; fails = q.fails }

-- what was refused is refused again
pub failed : (a b : Option (List ℕ)) (f : Bool) (h i : Sha256) (text : List ℕ) (r : Result Unit Failed) → IsErr r → PutsSome a b f text → Writes a b f h i text r
failed a b f h i text (Ok done) never p = cc
failed a b f h i text (Err e) refused p = p

pub failed_put : (a b : Option (List ℕ)) (f : Bool) (text : List ℕ) (r : Result Unit Failed) → IsErr r → PutsSome a b f text → Puts a b f text r
failed_put a b f text (Ok done) never p = cc
failed_put a b f text (Err e) refused p = p

-- the same text in other words
pub some_at : (a b : Option (List ℕ)) (f : Bool) (xs ys : List ℕ) → xs ≡ ys → PutsSome a b f xs → PutsSome a b f ys
some_at a b f xs ys e p = subst (λ (t : List ℕ). PutsSome a b f t) e p

pub all_at : (a b : Option (List ℕ)) (f : Bool) (h i : Sha256) (xs ys : List ℕ) → xs ≡ ys → Wrote a b f h i xs → Wrote a b f h i ys
all_at a b f h i xs ys e p = subst (λ (t : List ℕ). Wrote a b f h i t) e p

-- what was hashed, and its seal
pub sealed : (a b c : Option (List ℕ)) (f g : Bool) (h i : Sha256) (text : List ℕ) → Holds256 h [] → Wrote a b f h i text
    → ((message : List ℕ) → Holds256 i message → PutsAll b c g (seal_line (sha256 message))) → PutsAll a c g (text ++ seal_line (sha256 text))
sealed a b c f g h i text start p q =
    let s = q text (p.hashed [] start) in
    record { bytes = appends_two a b c text (seal_line (sha256 text)) p.puts.bytes s.bytes; works = s.works }

-- what was hashed, and a beginning of its seal
pub seal_fails : (a b c : Option (List ℕ)) (f g : Bool) (h i : Sha256) (text : List ℕ) → Holds256 h [] → Wrote a b f h i text
    → ((message : List ℕ) → Holds256 i message → PutsSome b c g (seal_line (sha256 message))) → PutsSome a c g (text ++ seal_line (sha256 text))
seal_fails a b c f g h i text start p q = second_fails a b c f g h i text (seal_line (sha256 text)) p (q text (p.hashed [] start))

-- ---- lists of lines

-- a front was written, and this is left of the whole
pub record WroteFront (old new : Option (List ℕ)) (failed : Bool) (before after : Sha256) (left whole : List ℕ) : Type 0 where
  pub front : List ℕ
  pub wrote : Wrote old new failed before after front
  pub parts : front ++ left ≡ whole

appends_none : (a : Option (List ℕ)) → Appends a a []
appends_none None = tt
appends_none (Some x) = sym (append-nil x)

-- nothing is written
pub nothing : (a : Option (List ℕ)) (f : Bool) (h : Sha256) → f ≡ false → Wrote a a f h h []
nothing a f h works = record {
  puts = record { bytes = appends_none a; works = works };
  hashed = λ message holds. subst (λ (t : List ℕ). Holds256 h t) (sym (append-nil message)) holds;
}

-- nothing was written yet
pub front_none : (a : Option (List ℕ)) (f : Bool) (h : Sha256) (whole : List ℕ) → f ≡ false → WroteFront a a f h h whole whole
front_none a f h whole works = record {
  front = [];
  wrote = nothing a f h works;
  parts = refl;
}

-- one more line was written
pub front_more : (a b c : Option (List ℕ)) (f g : Bool) (h i j : Sha256) (line from left whole : List ℕ) → from ≡ line ++ left → WroteFront a b f h i from whole
    → Wrote b c g i j line → WroteFront a c g h j left whole
front_more a b c f g h i j line from left whole e p q = record {
  front = p.front ++ line;
  wrote = both a b c f g h i j p.front line p.wrote q;
  parts = append_assoc p.front line left ∙ ap (λ (t : List ℕ). p.front ++ t) (sym e) ∙ p.parts;
}

-- no line stood there
pub front_same : (a b : Option (List ℕ)) (f : Bool) (h i : Sha256) (from left whole : List ℕ) → from ≡ left → WroteFront a b f h i from whole → WroteFront a b f h i left whole
front_same a b f h i from left whole e p = rw e at p

-- a line failed
pub front_fails : (a b c : Option (List ℕ)) (f g : Bool) (h i : Sha256) (line from left whole : List ℕ) → from ≡ line ++ left → WroteFront a b f h i from whole
    → PutsSome b c g line → PutsSome a c g whole
front_fails a b c f g h i line from left whole e p q =
    subst (λ (t : List ℕ). PutsSome a c g t) (ap (λ (t : List ℕ). p.front ++ t) (sym e) ∙ p.parts)
    (second_fails a b c f g h i p.front (line ++ left) p.wrote (first_fails b c g line left q))

-- nothing is left
pub front_all : (a b : Option (List ℕ)) (f : Bool) (h i : Sha256) (left whole : List ℕ) → left ≡ [] → WroteFront a b f h i left whole → Wrote a b f h i whole
front_all a b f h i left whole e p =
    subst (λ (t : List ℕ). Wrote a b f h i t) (sym (append-nil p.front) ∙ ap (λ (t : List ℕ). p.front ++ t) (sym e) ∙ p.parts) p.wrote

-- the same text in other words, by the answer
pub retext : (a b : Option (List ℕ)) (f : Bool) (h i : Sha256) (xs ys : List ℕ) (r : Result Unit Failed) → xs ≡ ys → Writes a b f h i xs r → Writes a b f h i ys r
retext a b f h i xs ys (Ok done) e p = all_at a b f h i xs ys e p
retext a b f h i xs ys (Err fault) e p = some_at a b f xs ys e p
