-- The bytes of words, one word after another.
use Rattle.std.proofs.Common.{◌≡◌, ℕ, ◌+◌, ◌<◌, List, [], ◌∷◌, ◌++◌, take, length, get_or, sym, ap, ◌∙◌, append_assoc, append-nil, add-one}
use Rattle.std.proofs.Math.Seq.{take-suc}
use Rattle.std.specs.Int.{to_le_bytes, w32}
use Rattle.origin_set.specs.OriginBytes.{words_bytes}

words_bytes-push : (words : List ℕ) (word : ℕ) → words_bytes (words ++ word ∷ []) ≡ words_bytes words ++ to_le_bytes w32 word
words_bytes-push [] word = append-nil (to_le_bytes w32 word)
words_bytes-push (first ∷ words) word =
    ap (λ bytes. to_le_bytes w32 first ++ bytes) (words_bytes-push words word) ∙ sym (append_assoc (to_le_bytes w32 first) (words_bytes words) (to_le_bytes w32 word))

-- one word more
pub words_bytes-take : (m words : List ℕ) (i : ℕ) → i < length words → m ++ words_bytes (take (i + 1) words) ≡ (m ++ words_bytes (take i words)) ++ to_le_bytes w32 (get_or words i 0)
words_bytes-take m words i h =
    rw (add-one, take-suc words i 0 h) (ap (λ bytes. m ++ bytes) (words_bytes-push (take i words) (get_or words i 0)) ∙ sym (append_assoc m (words_bytes (take i words)) (to_le_bytes w32 (get_or words i 0))))
