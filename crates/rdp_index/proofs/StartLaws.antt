-- Whether a command of a list starts at a place, and where it then stands among the commands. Assumes nothing.
use Rattle.std.proofs.Common.{◌≡◌, refl, sym, ap, ◌∙◌, subst, Bool, true, false, ◌||◌, true≢false, List, [], ◌∷◌, ◌++◌, ℕ, ◌+◌, ◌*◌, ◌≤◌, ◌<◌, arith, eq-eqb, ne_eqb, eqb-true, eqb, length}
use borrow.Author.Tests.{eqb-false}
use Rattle.rdp_words.specs.Kinds.{words_of}
use Rattle.rdp_words.specs.Lengths.{first_number}
use Rattle.rdp_words.proofs.Tests.{by-test}
use Rattle.rdp_check.specs.Commands.{commands_of, words_in}
use Rattle.rdp_check.proofs.JoinLaws.{command-some, words_inside}
use Rattle.rdp_index.specs.Index.{starts_at}

-- ---- the loop

starts-past : (place at : ℕ) (cs : List (List ℕ)) → place < at → starts_at place at cs ≡ false
unfolding starts_at
starts-past place at [] h = refl
starts-past place at (c ∷ cs) h =
    let apart : at ≡ place → ⊥ = λ e. omega arith in
    rw (ne_eqb _ _ apart) (starts-past place (at + words_of (first_number c)) cs (omega arith))

-- a command that is left starts at the place where one of all does
pub record Starting (list : List ℕ) (place : ℕ) (left : List ℕ) (at : ℕ) : Type 0 where
  pub words : at + words_in (commands_of left) ≡ words_in (commands_of list)
  pub same : starts_at place at (commands_of left) ≡ starts_at place 0 (commands_of list)

pub first : (list : List ℕ) (place : ℕ) → Starting list place list 0
first list place = record { words = omega arith; same = refl }

module _ {list : List ℕ} {place : ℕ} {left : List ℕ} {at : ℕ} (s : Starting list place left at) where
  pub ended : commands_of left ≡ [] → false ≡ starts_at place 0 (commands_of list)
  unfolding starts_at
  ended none = ap (starts_at place at) (sym none) ∙ s.same

  module _ (c left' : List ℕ) (next : commands_of left ≡ c ∷ commands_of left') where
    pub found : place ≤ at → eqb at place ≡ starts_at place 0 (commands_of list)
    unfolding starts_at
    found h =
        by-test (eqb at place)
        (λ t. t ∙ sym (rw (← s.same, next, t)))
        (λ f.
        let past : place < at = omega (arith, eqb-false at place f) in
        f ∙ sym (starts-past place at (commands_of left) past) ∙ s.same)

    module _ (count : ℕ) (long : count ≡ words_of (first_number c)) where
      pub few : 8 * (at + count) ≤ length list
      few = omega (arith, s.words, ap words_in next, words_inside list)

      pub again : at < place → Starting list place left' (at + count)
      unfolding starts_at
      again before =
          let apart : at ≡ place → ⊥ = λ e. omega arith in
          record {
            words = omega (arith, s.words, ap words_in next);
            same = rw (← s.same, next, ne_eqb _ _ apart, long);
          }

-- ---- its place among the commands

-- a command that starts at a place stands among the commands
pub record Split (place at : ℕ) (cs : List (List ℕ)) : Type 0 where
  pub before : List (List ℕ)
  pub command : List ℕ
  pub after : List (List ℕ)
  pub all : cs ≡ before ++ command ∷ after
  pub here : at + words_in before ≡ place

pub starts-split : (place at : ℕ) (cs : List (List ℕ)) → starts_at place at cs ≡ true → Split place at cs
unfolding starts_at
starts-split place at [] t = absurd (true≢false (sym t))
starts-split place at (c ∷ cs) t =
    by-test (eqb at place)
    (λ e. record { before = []; command = c; after = cs; all = refl; here = omega (arith, eqb-true at place e) })
    (λ f.
    let s = starts-split place (at + words_of (first_number c)) cs (sym (ap (λ (b : Bool). b || starts_at place (at + words_of (first_number c)) cs) f) ∙ t) in
    record {
      before = c ∷ s.before;
      command = s.command;
      after = s.after;
      all = ap (λ (l : List (List ℕ)). c ∷ l) s.all;
      here = omega (arith, s.here);
    })

pub starts-here : (at : ℕ) (us : List (List ℕ)) (c : List ℕ) (cs : List (List ℕ)) → starts_at (at + words_in us) at (us ++ c ∷ cs) ≡ true
unfolding starts_at
starts-here at [] c cs =
    let e : at ≡ at + 0 = omega arith in
    rw (eq-eqb _ _ e)
starts-here at (u ∷ us) c cs =
    let some : 1 ≤ words_of (first_number u) = command-some u in
    let apart : at ≡ at + words_in (u ∷ us) → ⊥ = λ e. omega arith in
    let w : at + words_of (first_number u) + words_in us ≡ at + words_in (u ∷ us) = omega arith in
    rw (ne_eqb _ _ apart)
    (subst (λ (p : ℕ). starts_at p (at + words_of (first_number u)) (us ++ c ∷ cs) ≡ true) w (starts-here (at + words_of (first_number u)) us c cs))
