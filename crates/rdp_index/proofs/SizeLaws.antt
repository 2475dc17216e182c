-- Refusals 1 and 2 of a list, as building and a question call for them. Assumes nothing.
use Rattle.std.proofs.Common.{◌≡◌, refl, sym, ap, ◌∙◌, List, ℕ, ◌/◌, ◌%◌, ◌≤◌, ◌<◌, suc-ne-zero, ltb-true, ltb-false, eqb-true, eqb, ltb, length}
use borrow.Author.Tests.{eqb-false}
use Rattle.rdp_words.proofs.Tests.{by-test}
use Rattle.rdp_words.specs.Grounds.{Answer}
use Rattle.rdp_command.specs.Decode.{answer}
use Rattle.rdp_index.specs.Index.{refused_at, ask_of}
use Rattle.rdp_index.specs.Steps.{size_answer, IndexIs}
use Rattle.rdp_index.proofs.ReadLaws.{ask-long, ask-odd}
use Rattle.rdp_index.proofs.NoteLaws.{index-long, index-odd, refused}

-- by the refusal that holds, or none
by_size :
    (P : Answer → Type 0) (list : List ℕ) → (32768 < length list → P (answer 1 4096)) →
    (length list ≤ 32768 → (length list % 8 ≡ 0 → ⊥) → P (answer 2 (length list / 8))) →
    (length list ≤ 32768 → length list % 8 ≡ 0 → P (answer 0 (length list / 8))) → P (size_answer list)
by_size P list long odd whole =
    by-test (ltb 32768 (length list)) (λ t. rw (t) (long (ltb-true _ _ t)))
    (λ f.
    by-test (eqb (length list % 8) 0) (λ t. rw (f, t) (whole (ltb-false _ _ f) (eqb-true _ _ t)))
    (λ g. rw (f, g) (odd (ltb-false _ _ f) (eqb-false _ _ g))))

pub record Sized (list : List ℕ) : Type 0 where
  pub short : length list ≤ 32768
  pub words : length list % 8 ≡ 0

module _ (list : List ℕ) (r : Answer) (is : r ≡ size_answer list) where
  pub size_none : r.number ≡ 0 → Sized list
  size_none z =
      by_size (λ a. a.number ≡ 0 → Sized list) list (λ h e. absurd (suc-ne-zero 0 e)) (λ s h e. absurd (suc-ne-zero 1 e))
      (λ s w e. record { short = s; words = w }) (ap (λ (a : Answer). a.number) (sym is) ∙ z)

  module _ (some : r.number ≡ 0 → ⊥) where
    pub size-index : (made : List ℕ) → IndexIs list r made
    size-index made =
        rw (is)
        (by_size (λ a. (a.number ≡ 0 → ⊥) → IndexIs list a made) list (λ h n. refused list 0 4096 made (index-long list h))
        (λ s h n. refused list 1 (length list / 8) made (index-odd list s h)) (λ s w n. absurd (n refl))
        (λ z. some (ap (λ (a : Answer). a.number) is ∙ z)))

    pub size-ask : (es : List ℕ) (place : ℕ) → refused_at r.number r.place ≡ ask_of list es place
    size-ask es place =
        rw (is)
        (by_size (λ a. (a.number ≡ 0 → ⊥) → refused_at a.number a.place ≡ ask_of list es place) list (λ h n. ask-long list es place h)
        (λ s h n. ask-odd list es place s h) (λ s w n. absurd (n refl)) (λ z. some (ap (λ (a : Answer). a.number) is ∙ z)))
