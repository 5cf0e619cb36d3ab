-- Words without blanks and marks, and the lines that they make.
use Rattle.std.proofs.Common.{◌≡◌, ℕ, suc, ◌<◌, ◌==◌, ◌||◌, ◌&&◌, not, Bool, true, false, List, [], ◌∷◌, ◌++◌, reverse, length, Option, None, Result, refl, sym, ap, ◌∙◌, arith, ltb, nat_le, append_assoc, append-nil}
use Rattle.std.specs.List.{list_all, slice_split, position_or_len}
use Rattle.std.specs.Option.{ok_or}
use Rattle.std.specs.Str.Lines.{lines}
use Rattle.std.proofs.lemmas.Bool.{and_parts}
use Rattle.std.proofs.lemmas.List.{reverse-reverse, reverse-append, length-reverse}
use Rattle.std.proofs.lemmas.List.Folds.{list_all-append}
use Rattle.std.proofs.Math.Seq.{take-length, drop-length, take-append_seam, drop-append_seam}
use Rattle.std.proofs.lemmas.Grind.{common_steps}
use Rattle.rv64_asm.specs.declared.fault.LineFault.{LineFault}
use Rattle.rv64_asm.specs.declared.fault.LineFault.TheVariants.{UnknownWord}
use Rattle.rv64_asm.specs.declared.statement.Statement.{Statement}
use Rattle.rv64_asm.specs.declared.words.Part.{Part}
use Rattle.rv64_asm.specs.Numbers.{◌>>=◌}
use Rattle.rv64_asm.specs.Words.{kind_of}
use Rattle.rv64_asm.specs.Lexing.{is_blank, skip_blanks, trim, operands, code_of, cut, word_of, shape_of}
use Rattle.rv64_asm.specs.Statements.{body_of, split_line, line_of, label_of, statement_of}
use Rattle.rv64_asm.specs.Shown.{two, three}

-- neither a blank nor one of `#`, `,` and `:`
abbrev pub plain : ℕ → Bool
plain b = nat_le 40 b && not (b == 44) && not (b == 58)

-- a blank or a comma, or plain
abbrev pub inner : ℕ → Bool
inner b = plain b || (b == 32 || b == 44)

-- one byte or more, all plain
pub record IsPlain (w : List ℕ) : Type 0 where
  pub some : 0 < length w
  pub bytes : list_all plain w ≡ true

not_blank : (b : ℕ) → plain b ≡ true → is_blank b ≡ false
not_blank b h = grind (arith, common_steps)

not_comma : (b : ℕ) → plain b ≡ true → (b == 44) ≡ false
not_comma b h = grind (arith, common_steps)

is_inner : (b : ℕ) → plain b ≡ true → inner b ≡ true
is_inner b h = rw h refl

no_mark : (b : ℕ) → inner b ≡ true → (b == 35) ≡ false
no_mark b h = grind (arith, common_steps)

no_colon : (b : ℕ) → inner b ≡ true → (b == 58) ≡ false
no_colon b h = grind (arith, common_steps)

-- what each byte has, each byte has that follows from it
pub each : (p q : ℕ → Bool) → ((b : ℕ) → p b ≡ true → q b ≡ true) → (bs : List ℕ) → list_all p bs ≡ true → list_all q bs ≡ true
each p q f [] h = refl
each p q f (b ∷ bs) h = let g = and_parts (p b) (list_all p bs) h in rw (f b g.0, each p q f bs g.1) refl

-- none passes: the first that does is at the end
none_first : (p q : ℕ → Bool) → ((b : ℕ) → p b ≡ true → q b ≡ false) → (bs : List ℕ) → list_all p bs ≡ true → position_or_len q bs ≡ length bs
none_first p q f [] h = refl
none_first p q f (b ∷ bs) h = let g = and_parts (p b) (list_all p bs) h in rw (f b g.0) (omega (arith, none_first p q f bs g.1))

-- none passes before the one that does
pub first_at : (p q : ℕ → Bool) → ((b : ℕ) → p b ≡ true → q b ≡ false) → (bs : List ℕ) (c : ℕ) (more : List ℕ) → list_all p bs ≡ true → q c ≡ true → position_or_len q (bs ++ c ∷ more) ≡ length bs
first_at p q f [] c more h e = rw e refl
first_at p q f (b ∷ bs) c more h e = let g = and_parts (p b) (list_all p bs) h in rw (f b g.0) (omega (arith, first_at p q f bs c more g.1 e))

-- no comma
abbrev uncut : ℕ → Bool
uncut b = not (b == 44)

plain_uncut : (b : ℕ) → plain b ≡ true → uncut b ≡ true
plain_uncut b h = rw (not_comma b h) refl

uncut_no_comma : (b : ℕ) → uncut b ≡ true → (b == 44) ≡ false
uncut_no_comma b h = grind (arith, common_steps)

split_none : (bs : List ℕ) → list_all uncut bs ≡ true → slice_split (λ x. x == 44) bs ≡ bs ∷ []
split_none [] h = refl
split_none (b ∷ bs) h = let g = and_parts (uncut b) (list_all uncut bs) h in rw (uncut_no_comma b g.0, split_none bs g.1) refl

split_first : (bs more : List ℕ) → list_all uncut bs ≡ true → slice_split (λ x. x == 44) (bs ++ 44 ∷ more) ≡ bs ∷ slice_split (λ x. x == 44) more
split_first [] more h = refl
split_first (b ∷ bs) more h = let g = and_parts (uncut b) (list_all uncut bs) h in rw (uncut_no_comma b g.0, split_first bs more g.1) refl

-- blanks before a word are skipped, and none are before one
skip_none : (w more : List ℕ) → IsPlain w → skip_blanks (w ++ more) ≡ w ++ more
skip_none [] more h = absurd (omega (arith, h.some))
skip_none (b ∷ bs) more h = let g = and_parts (plain b) (list_all plain bs) h.bytes in rw (not_blank b g.0) refl

all_reverse : (p : ℕ → Bool) (bs : List ℕ) → list_all p bs ≡ true → list_all p (reverse bs) ≡ true
all_reverse p [] h = refl
all_reverse p (b ∷ bs) h =
    let g = and_parts (p b) (list_all p bs) h in
    rw (reverse-append (b ∷ []) bs, list_all-append p (reverse bs) (b ∷ []), all_reverse p bs g.1, g.0) refl

plain_reverse : (w : List ℕ) → IsPlain w → IsPlain (reverse w)
plain_reverse w h = record { some = rw length-reverse h.some; bytes = all_reverse plain w h.bytes }

-- what begins and ends with a word has no blanks round it
trim_framed : (a middle z : List ℕ) → IsPlain a → IsPlain z → trim (a ++ (middle ++ z)) ≡ a ++ (middle ++ z)
trim_framed a middle z h k =
    let text : List ℕ = a ++ (middle ++ z) in
    let back : reverse text ≡ reverse z ++ reverse (a ++ middle) = ap reverse (sym (append_assoc a middle z)) ∙ reverse-append (a ++ middle) z in
    let skipped : skip_blanks (reverse text) ≡ reverse text = rw back (skip_none (reverse z) (reverse (a ++ middle)) (plain_reverse z k)) in
    rw (skip_none a (middle ++ z) h, skipped) (reverse-reverse text)

trim_plain : (w : List ℕ) → IsPlain w → trim w ≡ w
trim_plain w h =
    let front : skip_blanks w ≡ w = rw append-nil at (skip_none w [] h) in
    let back : skip_blanks (reverse w) ≡ reverse w = rw append-nil at (skip_none (reverse w) [] (plain_reverse w h)) in
    rw (front, back) (reverse-reverse w)

trim_spaced : (w : List ℕ) → IsPlain w → trim (32 ∷ w) ≡ w
trim_spaced w h = trim_plain w h

not_below : (n : ℕ) → ltb n n ≡ false
not_below n = grind (arith, common_steps)

-- a line without marks: its text is its code, and it has no label
unmarked : (text : List ℕ) → list_all inner text ≡ true → code_of text ≡ text
unmarked text h = rw (none_first inner (λ b. b == 35) no_mark text h) (take-length text)

no_cut : (text : List ℕ) → list_all inner text ≡ true → cut 58 text ≡ None
no_cut text h = rw (none_first inner (λ b. b == 58) no_colon text h, not_below (length text)) refl

unsplit : (text : List ℕ) → list_all inner text ≡ true → trim text ≡ text → split_line text ≡ (None, text)
unfolding split_line
unsplit text h e = rw (unmarked text h, e, no_cut text h) refl

-- a text without a line feed is one line
no_feed : (b : ℕ) → inner b ≡ true → (b == 10) ≡ false
no_feed b h = grind (arith, common_steps)

unfed : (text : List ℕ) → list_all inner text ≡ true → slice_split (λ b. b == 10) text ≡ text ∷ []
unfed [] h = refl
unfed (b ∷ bs) h = let g = and_parts (inner b) (list_all inner bs) h in rw (no_feed b g.0, unfed bs g.1) refl

single_line : (text : List ℕ) → list_all inner text ≡ true → (length text == 0) ≡ false → lines text ≡ text ∷ []
single_line text marks some = rw (unfed text marks, some) refl

-- the word ends at the first blank, and the operands begin behind it
word_is : (name a more : List ℕ) → IsPlain name → IsPlain a → word_of (name ++ 32 ∷ (a ++ more)) ≡ (name, a ++ more)
word_is name a more h k =
    let at : position_or_len is_blank (name ++ 32 ∷ (a ++ more)) ≡ length name = first_at plain is_blank not_blank name 32 (a ++ more) h.bytes refl in
    rw (at, take-append_seam name (32 ∷ (a ++ more)), drop-append_seam name (32 ∷ (a ++ more)), skip_none a more k) refl

lone_word : (name : List ℕ) → IsPlain name → word_of name ≡ (name, [])
lone_word name h =
    let at : position_or_len is_blank name ≡ length name = none_first plain is_blank not_blank name h.bytes in
    rw (at, take-length name, drop-length name) refl

not_zero : (n : ℕ) → (suc n == 0) ≡ false
not_zero n = grind (arith, common_steps)

filled : (a more : List ℕ) → IsPlain a → (length (a ++ more) == 0) ≡ false
filled [] more h = absurd (omega (arith, h.some))
filled (b ∷ bs) more h = not_zero (length (bs ++ more))

uncut_plain : (w : List ℕ) → IsPlain w → list_all uncut w ≡ true
uncut_plain w h = each plain uncut plain_uncut w h.bytes

one_operand : (a : List ℕ) → IsPlain a → operands a ≡ a ∷ []
one_operand a h =
    let some : (length a == 0) ≡ false = rw append-nil at (filled a [] h) in
    rw (some, split_none a (uncut_plain a h)) (ap (λ x. x ∷ []) (trim_plain a h))

-- the operands between commas
abbrev pair : List ℕ → List ℕ → List ℕ
pair a b = a ++ (44 ∷ 32 ∷ b)

two_operands : (a b : List ℕ) → IsPlain a → IsPlain b → operands (pair a b) ≡ a ∷ b ∷ []
two_operands a b h i =
    rw (filled a (44 ∷ 32 ∷ b) h, split_first a (32 ∷ b) (uncut_plain a h), split_none (32 ∷ b) (uncut_plain b i))
    (ap (λ x. x ∷ trim (32 ∷ b) ∷ []) (trim_plain a h) ∙ ap (λ x. a ∷ x ∷ []) (trim_spaced b i))

abbrev triple : List ℕ → List ℕ → List ℕ → List ℕ
triple a b c = a ++ (44 ∷ 32 ∷ (b ++ (44 ∷ 32 ∷ c)))

three_operands : (a b c : List ℕ) → IsPlain a → IsPlain b → IsPlain c → operands (triple a b c) ≡ a ∷ b ∷ c ∷ []
three_operands a b c h i j =
    rw (filled a (44 ∷ 32 ∷ (b ++ (44 ∷ 32 ∷ c))) h, split_first a (32 ∷ (b ++ (44 ∷ 32 ∷ c))) (uncut_plain a h), split_first (32 ∷ b) (32 ∷ c) (uncut_plain b i), split_none (32 ∷ c) (uncut_plain c j))
    (ap (λ x. x ∷ trim (32 ∷ b) ∷ trim (32 ∷ c) ∷ []) (trim_plain a h) ∙ ap (λ x. a ∷ x ∷ trim (32 ∷ c) ∷ []) (trim_spaced b i) ∙ ap (λ x. a ∷ b ∷ x ∷ []) (trim_spaced c j))

inner_plain : (w : List ℕ) → IsPlain w → list_all inner w ≡ true
inner_plain w h = each plain inner is_inner w h.bytes

-- the statement of a line that is a word and operands
abbrev pub statement_by : Part → List ℕ → List (List ℕ) → Result (Statement (List ℕ)) LineFault
statement_by part name os = ok_or (kind_of name) UnknownWord >>= λ kind. statement_of part kind (shape_of os)

-- a text read back: one line without a label, and with this statement
pub record Reads (text : List ℕ) (part : Part) (name : List ℕ) (os : List (List ℕ)) : Type 0 where
  pub one_line : lines text ≡ text ∷ []
  pub unlabelled : label_of text ≡ None
  pub said : line_of part text ≡ statement_by part name os

reads : (text : List ℕ) (part : Part) (name args : List ℕ) (os : List (List ℕ)) → list_all inner text ≡ true → trim text ≡ text → (length text == 0) ≡ false → word_of text ≡ (name, args) → operands args ≡ os → Reads text part name os
unfolding body_of
reads text part name args os marks trimmed some word ops =
    let split = unsplit text marks trimmed in
    let first : (word_of text).0 ≡ name = ap (λ (x : List ℕ × List ℕ). x.0) word in
    let rest : (word_of text).1 ≡ args = ap (λ (x : List ℕ × List ℕ). x.1) word in
    let body : body_of part text ≡ statement_by part name os = rw (some, first, rest, ops) refl in
    record {
      one_line = single_line text marks some;
      unlabelled = ap (λ (x : Option (List ℕ) × List ℕ). x.0) split;
      said = ap (λ (x : Option (List ℕ) × List ℕ). body_of part x.1) split ∙ body;
    }

pub lone_reads : (part : Part) (name : List ℕ) → IsPlain name → Reads name part name []
lone_reads part name h = reads name part name [] [] (inner_plain name h) (trim_plain name h) (rw append-nil at (filled name [] h)) (lone_word name h) refl

pub two_reads : (part : Part) (name a b : List ℕ) → IsPlain name → IsPlain a → IsPlain b → Reads (two name a b) part name (a ∷ b ∷ [])
two_reads part name a b h i j =
    let marks : list_all inner (two name a b) ≡ true = rw (list_all-append inner name (32 ∷ pair a b), inner_plain name h, list_all-append inner a (44 ∷ 32 ∷ b), inner_plain a i, inner_plain b j) refl in
    let trimmed : trim (two name a b) ≡ two name a b = rw append_assoc at (trim_framed name (32 ∷ (a ++ (44 ∷ 32 ∷ []))) b h j) in
    reads (two name a b) part name (pair a b) (a ∷ b ∷ []) marks trimmed (filled name (32 ∷ pair a b) h) (word_is name a (44 ∷ 32 ∷ b) h i) (two_operands a b i j)

pub three_reads : (part : Part) (name a b c : List ℕ) → IsPlain name → IsPlain a → IsPlain b → IsPlain c → Reads (three name a b c) part name (a ∷ b ∷ c ∷ [])
three_reads part name a b c h i j k =
    let marks : list_all inner (three name a b c) ≡ true = rw (list_all-append inner name (32 ∷ triple a b c), inner_plain name h, list_all-append inner a (44 ∷ 32 ∷ pair b c), inner_plain a i, list_all-append inner b (44 ∷ 32 ∷ c), inner_plain b j, inner_plain c k) refl in
    let trimmed : trim (three name a b c) ≡ three name a b c = simp append_assoc at (trim_framed name (32 ∷ (a ++ (44 ∷ 32 ∷ (b ++ (44 ∷ 32 ∷ []))))) c h k) in
    reads (three name a b c) part name (triple a b c) (a ∷ b ∷ c ∷ []) marks trimmed (filled name (32 ∷ triple a b c) h) (word_is name a (44 ∷ 32 ∷ pair b c) h i) (three_operands a b c i j k)

pub one_reads : (part : Part) (name a : List ℕ) → IsPlain name → IsPlain a → Reads (name ++ (32 ∷ a)) part name (a ∷ [])
one_reads part name a h i =
    let marks : list_all inner (name ++ (32 ∷ a)) ≡ true = rw (list_all-append inner name (32 ∷ a), inner_plain name h, inner_plain a i) refl in
    let trimmed : trim (name ++ (32 ∷ a)) ≡ name ++ (32 ∷ a) = trim_framed name (32 ∷ []) a h i in
    let word : word_of (name ++ (32 ∷ a)) ≡ (name, a) = rw append-nil at (word_is name a [] h i) in
    reads (name ++ (32 ∷ a)) part name a (a ∷ []) marks trimmed (filled name (32 ∷ a) h) word (one_operand a i)
