-- Each context stays a context.
use Rattle.std.proofs.Common.{◌≡◌, ◌≢◌, ℕ, ◌-◌, ◌<◌, ◌≤◌, List, length, get_or, Option, Some, None, refl, sym, subst, ◌∙◌, arith, inl, inr}
use Rattle.std.specs.Prelude.{set, slice_index, IsSome}
use Rattle.std.proofs.lemmas.Bool.{cases_eq}
use Rattle.std.proofs.lemmas.List.{length-set, get_or-set_same, get_or-set_other}
use Rattle.std.proofs.lemmas.List.Elements.{All-get_or, All-push, All-drop, All-take}
use Rattle.rename_file.specs.File.{File, Bank, IsBank, IsRename, bank, no_bank, no_rename, first, last, renamed_bank, committed_bank, undone_bank}

-- a value that is written takes none away
some_written : (cells : List (Option ℕ)) (p v q : ℕ) → q < length cells → IsSome (get_or cells q None) → IsSome (get_or (set cells p (Some v)) q None)
some_written cells p v q lt some =
    elim (cases_eq q p) [
      | inl same ↦ subst (λ j. IsSome (get_or (set cells j (Some v)) q None)) same (rw (get_or-set_same cells q (Some v) None lt) refl)
      | inr differ ↦ rw (get_or-set_other cells p q (Some v) None differ) some
    ]

pub IsBank-written : (cells : List (Option ℕ)) (p v c : ℕ) (b : Bank) → ((r : ℕ) → r < 32 → slice_index b.committed r < length cells) → IsBank cells c b → IsBank (set cells p (Some v)) c b
IsBank-written cells p v c b known ok = record {
  wide = ok.wide;
  zero = ok.zero;
  others = ok.others;
  valued = λ r lt. some_written cells p v (slice_index b.committed r) (known r lt) (ok.valued r lt);
  renamed = ok.renamed;
}

pub IsBank-emptied : (cells : List (Option ℕ)) (p c : ℕ) (b : Bank) → ((r : ℕ) → r < 32 → slice_index b.committed r ≢ p) → IsBank cells c b → IsBank (set cells p None) c b
IsBank-emptied cells p c b other ok = record {
  wide = ok.wide;
  zero = ok.zero;
  others = ok.others;
  valued = λ r lt. rw (get_or-set_other cells p (slice_index b.committed r) None None (other r lt)) (ok.valued r lt);
  renamed = ok.renamed;
}

-- what is true of each context, after a change of one of them
pub each-set : (P : ℕ → Bank → Type 0) (f : File) (c : ℕ) (b : Bank) → length f.banks ≡ 8 → c < 8 → ((k : ℕ) → k < 8 → P k (bank f k)) → P c b
    → (k : ℕ) → k < 8 → P k (get_or (set f.banks c b) k no_bank)
each-set P f c b eight lt all one k lt-k =
    elim (cases_eq k c) [
      | inl same ↦ subst (λ j. P j (get_or (set f.banks c b) j no_bank)) (sym same) (rw (get_or-set_same f.banks c b no_bank (omega arith)) one)
      | inr differ ↦ rw (get_or-set_other f.banks c k b no_bank differ) (all k lt-k)
    ]

pub banks-set : (cells : List (Option ℕ)) (f : File) (c : ℕ) (b : Bank) → length f.banks ≡ 8 → c < 8 → ((k : ℕ) → k < 8 → IsBank cells k (bank f k)) → IsBank cells c b
    → (k : ℕ) → k < 8 → IsBank cells k (get_or (set f.banks c b) k no_bank)
banks-set cells f c b eight lt all one = each-set (IsBank cells) f c b eight lt all one

pub IsBank-renamed : (cells : List (Option ℕ)) (c rd p : ℕ) (b : Bank) → 0 < rd → rd < 32 → 8 ≤ p → IsBank cells c b → IsBank cells c (renamed_bank b rd p)
IsBank-renamed cells c rd p b named narrow above ok = record {
  wide = ok.wide;
  zero = ok.zero;
  others = ok.others;
  valued = ok.valued;
  renamed = All-push IsRename b.renames (record { rd = rd; register = p }) ok.renamed (record { named = named; narrow = narrow; register = above });
}

pub first_is : (cells : List (Option ℕ)) (c : ℕ) (b : Bank) → 0 < length b.renames → IsBank cells c b → IsRename (first b)
first_is cells c b some ok = All-get_or IsRename b.renames 0 no_rename some ok.renamed

pub last_is : (cells : List (Option ℕ)) (c : ℕ) (b : Bank) → 0 < length b.renames → IsBank cells c b → IsRename (last b)
last_is cells c b some ok = All-get_or IsRename b.renames (length b.renames - 1) no_rename (omega arith) ok.renamed

-- what stands at r, once p stands at rd
at_set : (P : ℕ → Type 0) (m : List ℕ) (rd p r : ℕ) → r < length m → P p → (r ≢ rd → P (slice_index m r)) → P (slice_index (set m rd p) r)
at_set P m rd p r lt new old =
    elim (cases_eq r rd) [
      | inl same ↦ subst (λ j. P (slice_index (set m j p) r)) same (rw (get_or-set_same m r p 0 lt) new)
      | inr differ ↦ rw (get_or-set_other m rd r p 0 differ) (old differ)
    ]

pub IsBank-committed : (cells : List (Option ℕ)) (c : ℕ) (b : Bank) → 0 < length b.renames → IsSome (get_or cells (first b).register None) → IsBank cells c b → IsBank cells c (committed_bank b)
IsBank-committed cells c b some ready ok =
    let n = first b in
    let is : IsRename n = first_is cells c b some ok in
    record {
      wide = length-set b.committed n.rd n.register ∙ ok.wide;
      zero = get_or-set_other b.committed n.rd 0 n.register 0 (λ e. omega (arith, is.named)) ∙ ok.zero;
      others = λ r some-r lt. at_set (λ q. 8 ≤ q) b.committed n.rd n.register r (omega (arith, ok.wide)) is.register (λ _. ok.others r some-r lt);
      valued = λ r lt. at_set (λ q. IsSome (get_or cells q None)) b.committed n.rd n.register r (omega (arith, ok.wide)) ready (λ _. ok.valued r lt);
      renamed = All-drop IsRename 1 b.renames ok.renamed;
    }

pub IsBank-undone : (cells : List (Option ℕ)) (c : ℕ) (b : Bank) → IsBank cells c b → IsBank cells c (undone_bank b)
IsBank-undone cells c b ok = record {
  wide = ok.wide;
  zero = ok.zero;
  others = ok.others;
  valued = ok.valued;
  renamed = All-take IsRename (length b.renames - 1) b.renames ok.renamed;
}
