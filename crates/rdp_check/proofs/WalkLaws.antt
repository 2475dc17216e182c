-- The judgement of a list's commands, as the loop of the walk meets it. Assumes nothing.
use mathlib.Core.Path.{◌≡◌, refl, sym, ◌∙◌, ap}
use mathlib.Core.Bool.{Bool, true, false, cond, not, ◌&&◌, false≢true}
use mathlib.Core.List.{List, [], ◌∷◌}
use Prim.Native.Nat.{ℕ, zero, suc, ◌+◌, ◌*◌, ◌-◌, ◌/◌, ◌≤◌, ◌<◌}
use native.Mathlib.Nat.{mod-eq_of_lt}
use native.Mathlib.Omega.{arith}
use borrow.Author.Tests.{ltb-true}
use lib.Dec.{ltb}
use lib.ListN.{length, get_or, drop, drop_of_length-le}
use lib.Seq.{drop-cons}
use Rattle.rdp_words.specs.Words.{word_at, number_in}
use Rattle.rdp_words.specs.Kinds.{is_among, words_of}
use Rattle.rdp_command.specs.Reads.{head_of}
use Rattle.rdp_hazards.specs.Hazards.{next_of, entry_of}
use Rattle.rdp_check.specs.Commands.{commands_from, rest_from}
use Rattle.rdp_check.specs.View.{Stop, view_after, refusal_with, view_refusal, Watches, stop_at, settle_view, judge_view, judged_view}
use Rattle.rdp_command.specs.declared.Head.{Head}
use Rattle.rdp_check.specs.declared.walk.View.{View}
use Rattle.rdp_hazards.proofs.HazardLaws.{next_small, EntryParts, entry-parts}
use Rattle.rdp_words.proofs.KindLaws.{words-one}
use Rattle.rdp_words.proofs.PlaceLaws.{number_small, some_words}
use Rattle.rdp_check.proofs.ListLaws.{commands-at, rest_at, command-word, commands-past, rest-past}
use Rattle.rdp_check.proofs.ViewLaws.{Unwatched, unwatched, rest-kept}

judged-none : (strict : Bool) (v : View) (at : ℕ) → judged_view strict v at [] ≡ stop_at 0 at v
unfolding judge_view commands_from rest_from
judged-none strict v at = refl

-- what holds at the head of the walk's loop: the judgement of what is left is the answer
pub record Walked (strict : Bool) (list : List ℕ) (words : ℕ) (goal : Stop) (v : View) (at : ℕ) : Type 0 where
  pub low : v.hazards < 16
  pub whole : length list ≡ 8 * words
  pub few : words ≤ 4096
  pub within : at ≤ words
  pub same : judged_view strict v at (drop (8 * at) list) ≡ goal

pub first :
    (strict : Bool) (list : List ℕ) (words : ℕ) (v : View) → v.hazards < 16 → length list ≡ 8 * words → words ≤ 4096 →
    Walked strict list words (judged_view strict v 0 list) v 0
first strict list words v low whole few = record { low = low; whole = whole; few = few; within = omega arith; same = refl }

-- below the bound no sync counts as missing
none-counts : (strict : Bool) (e : ℕ) → e < cond strict 16 0xFF → ◌≡◌ {A = ℕ} (cond strict (e / 32) 0) 0
none-counts true e h = omega arith
none-counts false e h = refl

and-not : (a b : Bool) → a && not b ≡ true → (a ≡ true) × (b ≡ false)
and-not true false e = (refl, refl)
and-not true true e = absurd (false≢true e)
and-not false b e = absurd (false≢true e)

settled : (g at : ℕ) (v : View) (next : Stop) → (g ≡ 0 → ⊥) → stop_at g at v ≡ settle_view g at v next
settled zero at v next ne = absurd (ne refl)
settled (suc g) at v next ne = refl

module _ {strict : Bool} {list : List ℕ} {words : ℕ} {goal : Stop} {v : View} {at : ℕ} (w : Walked strict list words goal v at) where
  pub ended : words ≤ at → stop_at 0 words v ≡ goal
  ended h =
      let e : at ≡ words = omega arith in
      let le : length list ≤ 8 * at = omega arith in
      let none : drop (8 * at) list ≡ [] = drop_of_length-le list le in
      rw (← w.same, none, ← e) (sym (judged-none strict v at))

  -- a turn, at a command with a number
  module _ (more : at < words) (n : ℕ) (is : n ≡ number_in (word_at list at)) (count : ℕ) (long : count ≡ words_of n) where
    pub past : words - at < count → stop_at 3 at v ≡ goal
    unfolding judge_view
    past h =
        let short : length list / 8 < at + words_of n = omega arith in
        let cons : drop (8 * at) list ≡ get_or list (8 * at) 0 ∷ drop (suc (8 * at)) list = drop-cons list (8 * at) 0 (omega arith) in
        rw (← w.same, commands-past list at n is short, rest-past list at n is short, cons)

    pub falls : count ≤ words - at → words - (at + count) < words - at
    falls h = omega (arith, some_words list at n is)

    module _ (fits : count ≤ words - at) where
      inside : at + words_of n ≤ length list / 8
      inside = omega arith

      -- the judgement from the next command on
      abbrev onward : Stop
      onward = judged_view strict (view_after v (head_of (word_at list at))) (at + count) (drop (8 * (at + count)) list)

      step : judged_view strict v at (drop (8 * at) list) ≡ settle_view (view_refusal strict v n) at v onward
      unfolding judge_view
      step =
          let cs = drop (8 * (at + words_of n)) list in
          rw (commands-at list at n is inside, rest_at list at n is inside)
          (ap (λ (x : ℕ). settle_view (view_refusal strict v (number_in x)) at v (judged_view strict (view_after v (head_of x)) (at + words_of (number_in x)) cs)) (command-word list at n is inside) ∙
          ap (λ (x : ℕ). settle_view (view_refusal strict v x) at v (judged_view strict (view_after v (head_of (word_at list at))) (at + words_of x) cs)) (sym is) ∙
          ap (λ (x : ℕ). settle_view (view_refusal strict v n) at v (judged_view strict (view_after v (head_of (word_at list at))) (at + x) (drop (8 * (at + x)) list))) (sym long))

      pub refused : (g : ℕ) → g ≡ view_refusal strict v n → (g ≡ 0 → ⊥) → stop_at g at v ≡ goal
      refused g e ne = settled g at v onward ne ∙ ap (λ (x : ℕ). settle_view x at v onward) e ∙ sym step ∙ w.same

      pub again : (g : ℕ) → g ≡ view_refusal strict v n → g ≡ 0 → (u : View) → u ≡ view_after v (head_of (word_at list at)) → Walked strict list words goal u (at + count)
      again g e z u is-u =
          let zero_is : view_refusal strict v n ≡ 0 = sym e ∙ z in
          record {
            low = rw is-u (next_small v.hazards (number_in (word_at list at)));
            whole = w.whole;
            few = w.few;
            within = omega arith;
            same =
                ap (λ (x : View). judged_view strict x (at + count) (drop (8 * (at + count)) list)) is-u ∙
                ap (λ (x : ℕ). settle_view x at v onward) (sym zero_is) ∙
                sym step ∙
                w.same;
          }

-- a turn at a command that is not watched and whose entry e in the table says that it misses no sync that counts
pub record Quick {strict : Bool} {list : List ℕ} {words : ℕ} {goal : Stop} {v : View} {at : ℕ} (w : Walked strict list words goal v at) (h : Head) (e : ℕ) : Type 0 where
  pub more : at < words
  pub is-h : h ≡ head_of (word_at list at)
  pub is-e : e ≡ entry_of v.hazards h.number
  pub clear : ◌≡◌ {A = ℕ} (cond strict (e / 32) 0) 0
  pub still : Unwatched v.rest h.number

number_is : (h : Head) (w : ℕ) → h ≡ head_of w → h.number ≡ number_in w
number_is h w is-h = ap (λ (x : Head). x.number) is-h

small : (h : Head) (w : ℕ) → h ≡ head_of w → h.number < 64
small h w is-h = rw (number_is h w is-h) (number_small w)

module _ {strict : Bool} {list : List ℕ} {words : ℕ} {goal : Stop} {v : View} {at : ℕ} where
  pub turn :
      (w : Walked strict list words goal v at) (numbers : ℕ) → Watches numbers v.rest → at < words → (h : Head) → h ≡ head_of (word_at list at) → (e : ℕ) →
      e ≡ entry_of v.hazards h.number → (b : Bool) → b ≡ is_among numbers h.number → (bound : ℕ) → bound ≡ cond strict 16 0xFF →
      ltb e bound && not b ≡ true → Quick w h e
  turn w numbers watches more h is-h e is-e b is_b bound is_bound t =
      let k = and-not (ltb e bound) b t in
      record {
        more = more;
        is-h = is-h;
        is-e = is-e;
        clear = none-counts strict e (rw is_bound at (ltb-true e bound k.0));
        still = unwatched v.rest h.number (sym (watches h.number (small h _ is-h)) ∙ sym is_b ∙ k.1);
      }

  module _ {w : Walked strict list words goal v at} {h : Head} {e : ℕ} (q : Quick w h e) where
    parts : EntryParts v.hazards h.number e
    parts = entry-parts v.hazards h.number e (small h _ q.is-h) q.is-e

    unrefused : 0 ≡ view_refusal strict v h.number
    unfolding refusal_with
    unrefused =
        rw (q.still.before-end, q.still.fits, ← parts.required, q.clear)

    -- the hazards stay where the entry is no other
    pub stays : e ≡ v.hazards → v.hazards ≡ next_of v.hazards h.number
    stays same = sym same ∙ sym (mod-eq_of_lt (rw same w.low)) ∙ parts.next

    module _ {next : ℕ} (is-next : next ≡ next_of v.hazards h.number) where
      pub quick : (count : ℕ) → count ≡ words_of h.number → count ≤ words - at → Walked strict list words goal (record { hazards = next; rest = v.rest }) (at + count)
      quick count long fits =
          again w q.more h.number (number_is h _ q.is-h) count long fits 0 unrefused refl _
          ((λ i. record { hazards = is-next i; rest = rest-kept v.rest h q.still.keeps i }) ∙ ap (view_after v) q.is-h)

      pub quick-one : (l : Bool) → l ≡ is_among 0x0000_0030_0000_FF00 h.number → not l ≡ true → Walked strict list words goal (record { hazards = next; rest = v.rest }) (at + 1)
      quick-one l is-l f = quick 1 (words-one h.number (omega (arith, small h _ q.is-h)) l is-l f) (omega (arith, q.more))
