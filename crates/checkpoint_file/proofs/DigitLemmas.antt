-- The digits of bytes.
use Rattle.std.specs.Int.{to_be_bytes, w64}
use Rattle.std.proofs.Common.{◌≡◌, ℕ, zero, suc, ◌<◌, ◌/◌, ◌%◌, [], ◌∷◌, List, Result, Ok, Err, refl, ap, subst, ◌∙◌, arith}
use Rattle.hex.specs.Hex.{IsBytes, decode_sized, encode_lower}
use Rattle.hex.specs.declared.error.FromHexError.{FromHexError}
use Rattle.hex.proofs.HexLemmas.{decode_sized-encode_lower}
use Rattle.std.specs.Prelude.{MatchResult}
use Rattle.checkpoint_file.specs.Lines.{AreBytes}

-- the digits of bytes are decoded to them
pub decodes : (digits bytes out : List ℕ) (n : ℕ) (result : Result Unit FromHexError)
    → MatchResult (decode_sized digits n) (λ found. (result ≡ Ok tt) × (out ≡ found)) (λ e. result ≡ Err e)
    → AreBytes n bytes → digits ≡ encode_lower bytes → (result ≡ Ok tt) × (out ≡ bytes)
decodes digits bytes out n result m fits e =
    subst (λ (r : Result (List ℕ) FromHexError). MatchResult r (λ found. (result ≡ Ok tt) × (out ≡ found)) (λ e. result ≡ Err e))
    (ap (λ (t : List ℕ). decode_sized t n) e ∙ decode_sized-encode_lower bytes n fits.count fits.bytes) m

pub bytes_nil : IsBytes []
bytes_nil i = search arith

pub bytes_cons : (b : ℕ) (bs : List ℕ) → b < 256 → IsBytes bs → IsBytes (b ∷ bs)
bytes_cons b bs small h zero = small
bytes_cons b bs small h (suc i) = h i

below : (n : ℕ) → n % 256 < 256
below n = omega arith

pub bytes_of_word : (n : ℕ) → AreBytes 8 (to_be_bytes w64 n)
bytes_of_word n = record { count = refl; bytes = bytes_cons (n / 72057594037927936 % 256) (n / 281474976710656 % 256 ∷ (n / 1099511627776 % 256 ∷ (n / 4294967296 % 256 ∷ (n / 16777216 % 256 ∷ (n / 65536 % 256 ∷ (n / 256 % 256 ∷ (n % 256 ∷ []))))))) (below (n / 72057594037927936)) (bytes_cons (n / 281474976710656 % 256) (n / 1099511627776 % 256 ∷ (n / 4294967296 % 256 ∷ (n / 16777216 % 256 ∷ (n / 65536 % 256 ∷ (n / 256 % 256 ∷ (n % 256 ∷ [])))))) (below (n / 281474976710656)) (bytes_cons (n / 1099511627776 % 256) (n / 4294967296 % 256 ∷ (n / 16777216 % 256 ∷ (n / 65536 % 256 ∷ (n / 256 % 256 ∷ (n % 256 ∷ []))))) (below (n / 1099511627776)) (bytes_cons (n / 4294967296 % 256) (n / 16777216 % 256 ∷ (n / 65536 % 256 ∷ (n / 256 % 256 ∷ (n % 256 ∷ [])))) (below (n / 4294967296)) (bytes_cons (n / 16777216 % 256) (n / 65536 % 256 ∷ (n / 256 % 256 ∷ (n % 256 ∷ []))) (below (n / 16777216)) (bytes_cons (n / 65536 % 256) (n / 256 % 256 ∷ (n % 256 ∷ [])) (below (n / 65536)) (bytes_cons (n / 256 % 256) (n % 256 ∷ []) (below (n / 256)) (bytes_cons (n % 256) [] (below n) bytes_nil))))))) }
