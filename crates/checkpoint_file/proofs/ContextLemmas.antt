-- Contexts one after the other.
use Rattle.std.proofs.Common.{◌≡◌, ℕ, zero, suc, ◌+◌, ◌^◌, ◌<◌, ◌≤◌, List, [], ◌∷◌, ◌++◌, refl, sym, ap, ◌∙◌, append_assoc, arith, get_or}
use Rattle.std.specs.Prelude.{codes}
use Rattle.std.specs.Fmt.{decimal}
use Rattle.checkpoint_file.specs.ContextLines.{HasContext, HasContexts, HasEightContexts, HasRegisters, counts_of}
use Rattle.checkpoint_file.specs.Contexts.{ContextValue, FitsContext, context_text, page_lines, register_lines}
use Rattle.checkpoint_file.specs.Lines.{context_line, count_line, word_line}
use Rattle.checkpoint_file.specs.PageLines.{HasPages, IsNoPage}
use Rattle.join_law.specs.Eight.{place_of}
use Rattle.join_law.specs.declared.places.Eight.{Eight}

-- what begins with another letter is no page
other_letter : (bytes rest : List ℕ) → get_or bytes 0 0 ≡ 99 → bytes ≡ codes "page " ++ rest → ⊥
other_letter bytes rest e page = let both : 99 ≡ 112 = sym e ∙ ap (λ (t : List ℕ). get_or t 0 0) page in omega (arith, both)

-- a context is no page
pub no_page : (number count : ℕ) (bytes rest : List ℕ) → HasContext number count bytes rest → IsNoPage bytes
no_page number count bytes rest h tail = other_letter bytes tail (ap (λ (t : List ℕ). get_or t 0 0) h.parts)

-- a rest that is the same
pub no_page_along : (bytes rest : List ℕ) → bytes ≡ rest → IsNoPage rest → IsNoPage bytes
no_page_along bytes rest e stop = rw e stop

pub context_from : (number count : ℕ) (bytes there rest : List ℕ) → bytes ≡ there → HasContext number count there rest → HasContext number count bytes rest
context_from number count bytes there rest e h = rw e h

pub contexts_from : (number to : ℕ) (counts bytes there rest : List ℕ) → number ≡ to → bytes ≡ there → HasContexts to counts there rest → HasContexts number counts bytes rest
contexts_from number to counts bytes there rest e f h = rw (e, f) h

pub context_between : (number count : ℕ) (here there end rest : List ℕ) → here ≡ there → end ≡ rest → HasContext number count there end → HasContext number count here rest
context_between number count here there end rest e f h = rw (e, ← f) h

-- ---- the parts of one context

-- what follows its heading
abbrev pub after_heading : ContextValue → List ℕ → List ℕ
after_heading context rest =
    count_line context.count ++ (word_line (codes "pc ") context.pc ++ (register_lines 1 context.registers ++ (page_lines context.pages ++ rest)))

four_parts : (a b c d rest : List ℕ) → (a ++ (b ++ (c ++ d))) ++ rest ≡ a ++ (b ++ (c ++ (d ++ rest)))
four_parts a b c d rest =
    append_assoc a (b ++ (c ++ d)) rest ∙ ap (λ (t : List ℕ). a ++ t) (append_assoc b (c ++ d) rest ∙ ap (λ (t : List ℕ). b ++ t) (append_assoc c d rest))

pub context_parts : (number : ℕ) (context : ContextValue) (rest : List ℕ)
    → context_text number context ++ rest ≡ codes "context " ++ (decimal number ++ (10 ∷ after_heading context rest))
context_parts number context rest =
    let tail : List ℕ = count_line context.count ++ (word_line (codes "pc ") context.pc ++ (register_lines 1 context.registers ++ page_lines context.pages)) in
    append_assoc (context_line number) tail rest
    ∙ ap (λ (t : List ℕ). context_line number ++ t) (four_parts (count_line context.count) (word_line (codes "pc ") context.pc) (register_lines 1 context.registers) (page_lines context.pages) rest)
    ∙ ap (λ (t : List ℕ). codes "context " ++ t) (append_assoc (decimal number) (10 ∷ []) (after_heading context rest))

-- its lines were found one after the other
pub context_found : (number count pc : ℕ) (bytes heading counted place registers pages rest : List ℕ) → count ≤ 2 ^ 60 → pc < 2 ^ 64
    → bytes ≡ codes "context " ++ heading → heading ≡ decimal number ++ (10 ∷ counted) → counted ≡ count_line count ++ place
    → place ≡ word_line (codes "pc ") pc ++ registers → HasRegisters 1 registers pages → HasPages 0 pages rest → HasContext number count bytes rest
context_found number count pc bytes heading counted place registers pages rest low word a b c d h k =
    let context : ContextValue = record { count = count; pc = pc; registers = h.values; pages = k.pages } in
    record {
      context = context;
      fits = record { count = low; pc = word; registers = h.registers; pages = k.in_order };
      counted = refl;
      parts =
          let e0 : pages ≡ page_lines k.pages ++ rest = k.parts in
          let e1 : registers ≡ register_lines 1 h.values ++ (page_lines k.pages ++ rest) = h.parts ∙ ap (λ (t : List ℕ). register_lines 1 h.values ++ t) e0 in
          let e2 = d ∙ ap (λ (t : List ℕ). word_line (codes "pc ") pc ++ t) e1 in
          let e3 = c ∙ ap (λ (t : List ℕ). count_line count ++ t) e2 in
          let e4 = b ∙ ap (λ (t : List ℕ). decimal number ++ (10 ∷ t)) e3 in
          a ∙ ap (λ (t : List ℕ). codes "context " ++ t) e4 ∙ sym (context_parts number context rest);
    }

-- ---- contexts one after the other

pub four_found : (number a b p q : ℕ) (bytes next rest : List ℕ) → HasContexts number (a ∷ b ∷ []) bytes next → HasContexts (number + 2) (p ∷ q ∷ []) next rest
    → HasContexts number (a ∷ b ∷ p ∷ q ∷ []) bytes rest
four_found number a b p q bytes next rest h k =
    (h.0, h.1, (h.2.0, h.2.1, contexts_from (number + 1 + 1) (number + 2) (p ∷ q ∷ []) h.2.0 next rest (omega arith) h.2.2 k))

pub eight_counts : (a b c d e f g h p q r s t u v w : ℕ) → a ≡ p → b ≡ q → c ≡ r → d ≡ s → e ≡ t → f ≡ u → g ≡ v → h ≡ w
    → ◌≡◌ {A = List ℕ} (a ∷ b ∷ c ∷ d ∷ e ∷ f ∷ g ∷ h ∷ []) (p ∷ q ∷ r ∷ s ∷ t ∷ u ∷ v ∷ w ∷ [])
eight_counts a b c d e f g h p q r s t u v w e0 e1 e2 e3 e4 e5 e6 e7 = rw (e0, e1, e2, e3, e4, e5, e6, e7) refl

eight_texts : (a b c d e f g h rest : List ℕ) → (a ++ (b ++ (c ++ (d ++ (e ++ (f ++ (g ++ h))))))) ++ rest ≡ a ++ (b ++ (c ++ (d ++ (e ++ (f ++ (g ++ (h ++ rest)))))))
eight_texts a b c d e f g h rest = simp append_assoc

-- one fact for each context
each : (contexts : Eight ContextValue) → FitsContext contexts.c0 → FitsContext contexts.c1 → FitsContext contexts.c2 → FitsContext contexts.c3
    → FitsContext contexts.c4 → FitsContext contexts.c5 → FitsContext contexts.c6 → FitsContext contexts.c7 → (i : ℕ) → i < 8 → FitsContext (place_of contexts i)
each contexts f0 f1 f2 f3 f4 f5 f6 f7 zero below = f0
each contexts f0 f1 f2 f3 f4 f5 f6 f7 (suc zero) below = f1
each contexts f0 f1 f2 f3 f4 f5 f6 f7 (suc (suc zero)) below = f2
each contexts f0 f1 f2 f3 f4 f5 f6 f7 (suc (suc (suc zero))) below = f3
each contexts f0 f1 f2 f3 f4 f5 f6 f7 (suc (suc (suc (suc zero)))) below = f4
each contexts f0 f1 f2 f3 f4 f5 f6 f7 (suc (suc (suc (suc (suc zero))))) below = f5
each contexts f0 f1 f2 f3 f4 f5 f6 f7 (suc (suc (suc (suc (suc (suc zero)))))) below = f6
each contexts f0 f1 f2 f3 f4 f5 f6 f7 (suc (suc (suc (suc (suc (suc (suc n))))))) below = f7

eight_lines : (a b c d e f g h b0 b1 b2 b3 b4 b5 b6 b7 next b8 : List ℕ) → b0 ≡ a ++ b1 → b1 ≡ b ++ b2 → b2 ≡ c ++ b3 → b3 ≡ d ++ b4 → b4 ≡ next → next ≡ e ++ b5
    → b5 ≡ f ++ b6 → b6 ≡ g ++ b7 → b7 ≡ h ++ b8 → b0 ≡ a ++ (b ++ (c ++ (d ++ (e ++ (f ++ (g ++ (h ++ b8)))))))
eight_lines a b c d e f g h b0 b1 b2 b3 b4 b5 b6 b7 next b8 p0 p1 p2 p3 p p4 p5 p6 p7 = rw (p0, p1, p2, p3, p, p4, p5, p6, p7) refl

pub eight_found : (a b c d e f g h : ℕ) (bytes next rest : List ℕ) → HasContexts 0 (a ∷ b ∷ c ∷ d ∷ []) bytes next → HasContexts 4 (e ∷ f ∷ g ∷ h ∷ []) next rest
    → HasEightContexts (a ∷ b ∷ c ∷ d ∷ e ∷ f ∷ g ∷ h ∷ []) bytes rest
eight_found a b c d e f g h bytes next rest x y =
    let h0 = x.1 in let h1 = x.2.1 in let h2 = x.2.2.1 in let h3 = x.2.2.2.1 in
    let h4 = y.1 in let h5 = y.2.1 in let h6 = y.2.2.1 in let h7 = y.2.2.2.1 in
    let contexts : Eight ContextValue = record { c0 = h0.context; c1 = h1.context; c2 = h2.context; c3 = h3.context; c4 = h4.context; c5 = h5.context; c6 = h6.context; c7 = h7.context } in
    record {
      contexts = contexts;
      fits = each contexts h0.fits h1.fits h2.fits h3.fits h4.fits h5.fits h6.fits h7.fits;
      counted = sym (eight_counts _ _ _ _ _ _ _ _ _ _ _ _ _ _ _ _ h0.counted h1.counted h2.counted h3.counted h4.counted h5.counted h6.counted h7.counted);
      parts =
          eight_lines (context_text 0 h0.context) (context_text 1 h1.context) (context_text 2 h2.context) (context_text 3 h3.context)
          (context_text 4 h4.context) (context_text 5 h5.context) (context_text 6 h6.context) (context_text 7 h7.context) bytes x.0 x.2.0 x.2.2.0 x.2.2.2.0 y.0 y.2.0 y.2.2.0 next rest h0.parts h1.parts h2.parts h3.parts x.2.2.2.2 h4.parts h5.parts h6.parts
          (h7.parts ∙ ap (λ (t : List ℕ). context_text 7 h7.context ++ t) y.2.2.2.2)
          ∙ sym (eight_texts (context_text 0 h0.context) (context_text 1 h1.context) (context_text 2 h2.context) (context_text 3 h3.context)
          (context_text 4 h4.context) (context_text 5 h5.context) (context_text 6 h6.context) (context_text 7 h7.context) rest);
    }

-- a context in front of a rest
one_context : (number : ℕ) (context : ContextValue) (rest : List ℕ) → FitsContext context → HasContext number context.count (context_text number context ++ rest) rest
one_context number context rest fits = record { context = context; fits = fits; counted = refl; parts = refl }

pub eight_parts : (counts bytes rest : List ℕ) → (h : HasEightContexts counts bytes rest) → HasContexts 0 (counts_of h.contexts) bytes rest
eight_parts counts bytes rest h =
    let x = h.contexts in
    let n7 = context_text 7 x.c7 ++ rest in
    let n6 = context_text 6 x.c6 ++ n7 in
    let n5 = context_text 5 x.c5 ++ n6 in
    let n4 = context_text 4 x.c4 ++ n5 in
    let n3 = context_text 3 x.c3 ++ n4 in
    let n2 = context_text 2 x.c2 ++ n3 in
    let n1 = context_text 1 x.c1 ++ n2 in
    let whole : bytes ≡ context_text 0 x.c0 ++ n1 = h.parts
    ∙ eight_texts (context_text 0 x.c0) (context_text 1 x.c1) (context_text 2 x.c2) (context_text 3 x.c3)
    (context_text 4 x.c4) (context_text 5 x.c5) (context_text 6 x.c6) (context_text 7 x.c7) rest in (
      n1,
      context_from 0 x.c0.count bytes (context_text 0 x.c0 ++ n1) n1 whole (one_context 0 x.c0 n1 (h.fits 0 (omega arith))),
      (
        n2,
        one_context 1 x.c1 n2 (h.fits 1 (omega arith)),
        (
          n3,
          one_context 2 x.c2 n3 (h.fits 2 (omega arith)),
          (
            n4,
            one_context 3 x.c3 n4 (h.fits 3 (omega arith)),
            (
              n5,
              one_context 4 x.c4 n5 (h.fits 4 (omega arith)),
              (
                n6,
                one_context 5 x.c5 n6 (h.fits 5 (omega arith)),
                (
                  n7,
                  one_context 6 x.c6 n7 (h.fits 6 (omega arith)),
                  (rest, one_context 7 x.c7 rest (h.fits 7 (omega arith)), refl),
                ),
              ),
            ),
          ),
        ),
      ),
    )
