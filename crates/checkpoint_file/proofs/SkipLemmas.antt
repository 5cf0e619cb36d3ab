-- Lines that are compared one after the other.
use Rattle.std.proofs.Common.{◌≡◌, ℕ, List, [], ◌++◌, sym, ap, ◌∙◌, append_assoc}
use Rattle.std.proofs.lemmas.List.{append_cancel_left}

-- what follows a whole from the start follows what is left of it from here, and the other way round
pub record Skips (bytes here left whole : List ℕ) : Type 0 where
  pub back : (rest : List ℕ) → here ≡ left ++ rest → bytes ≡ whole ++ rest
  pub on : (rest : List ℕ) → bytes ≡ whole ++ rest → here ≡ left ++ rest

pub skip_none : (bytes whole : List ℕ) → Skips bytes bytes whole whole
skip_none bytes whole = record { back = λ rest e. e; on = λ rest e. e }

-- the line that is next
pub next_line : (bytes here line from left whole rest : List ℕ) → from ≡ line ++ left → Skips bytes here from whole → bytes ≡ whole ++ rest → here ≡ line ++ (left ++ rest)
next_line bytes here line from left whole rest e s w = s.on rest w ∙ ap (λ (t : List ℕ). t ++ rest) e ∙ append_assoc line left rest

-- one more line
pub skip_more : (bytes here next line from left whole : List ℕ) → from ≡ line ++ left → Skips bytes here from whole → here ≡ line ++ next → Skips bytes next left whole
skip_more bytes here next line from left whole e s found = record {
  back = λ rest f. s.back rest (found ∙ ap (λ (t : List ℕ). line ++ t) f ∙ sym (append_assoc line left rest) ∙ ap (λ (t : List ℕ). t ++ rest) (sym e));
  on = λ rest w. append_cancel_left line next (left ++ rest) (sym found ∙ next_line bytes here line from left whole rest e s w);
}

-- nothing is left
pub skip_all : (bytes here left whole : List ℕ) → left ≡ [] → Skips bytes here left whole → bytes ≡ whole ++ here
skip_all bytes here left whole e s = s.back here (ap (λ (t : List ℕ). t ++ here) (sym e))

pub skip_end : (bytes here left whole rest : List ℕ) → left ≡ [] → Skips bytes here left whole → bytes ≡ whole ++ rest → here ≡ rest
skip_end bytes here left whole rest e s w = s.on rest w ∙ ap (λ (t : List ℕ). t ++ rest) e

pub five_parts : (a b c d p rest : List ℕ) → (a ++ (b ++ (c ++ (d ++ p)))) ++ rest ≡ a ++ (b ++ (c ++ (d ++ (p ++ rest))))
five_parts a b c d p rest =
    append_assoc a (b ++ (c ++ (d ++ p))) rest ∙ ap (λ (t : List ℕ). a ++ t) (append_assoc b (c ++ (d ++ p)) rest
    ∙ ap (λ (t : List ℕ). b ++ t) (append_assoc c (d ++ p) rest ∙ ap (λ (t : List ℕ). c ++ t) (append_assoc d p rest)))

pub five_found : (a b c d p b0 b1 b2 b3 b4 b5 : List ℕ) → b0 ≡ a ++ b1 → b1 ≡ b ++ b2 → b2 ≡ c ++ b3 → b3 ≡ d ++ b4 → b4 ≡ p ++ b5
    → b0 ≡ (a ++ (b ++ (c ++ (d ++ p)))) ++ b5
five_found a b c d p b0 b1 b2 b3 b4 b5 e0 e1 e2 e3 e4 = rw (e0, e1, e2, e3, e4) (sym (five_parts a b c d p b5))

pub eight_parts : (a b c d e f g h rest : List ℕ) → (a ++ (b ++ (c ++ (d ++ (e ++ (f ++ (g ++ h))))))) ++ rest ≡ a ++ (b ++ (c ++ (d ++ (e ++ (f ++ (g ++ (h ++ rest)))))))
eight_parts a b c d e f g h rest = simp append_assoc

pub eight_found : (a b c d e f g h b0 b1 b2 b3 b4 b5 b6 b7 b8 : List ℕ) → b0 ≡ a ++ b1 → b1 ≡ b ++ b2 → b2 ≡ c ++ b3 → b3 ≡ d ++ b4 → b4 ≡ e ++ b5
    → b5 ≡ f ++ b6 → b6 ≡ g ++ b7 → b7 ≡ h ++ b8 → b0 ≡ (a ++ (b ++ (c ++ (d ++ (e ++ (f ++ (g ++ h))))))) ++ b8
eight_found a b c d e f g h b0 b1 b2 b3 b4 b5 b6 b7 b8 e0 e1 e2 e3 e4 e5 e6 e7 = rw (e0, e1, e2, e3, e4, e5, e6, e7) (sym (eight_parts a b c d e f g h b8))
