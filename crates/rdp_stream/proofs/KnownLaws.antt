-- What the code has of a list that arrives is what is known of it. Assumes nothing.
use Rattle.std.proofs.Common.{ℕ, true, false, Option, None, Some, Result, Ok, Err, [], take, ◌≡◌, refl, sym, ◌∙◌, ap, true≢false}
use Rattle.std.specs.Option.{is_some}
use Rattle.rdp_words.proofs.GroundLaws.{refused-number}
use Rattle.rdp_words.specs.declared.grounds.Ground.{Ground}
use Rattle.rdp_words.specs.Grounds.{answered, number_of, number_if}
use Rattle.rdp_words.specs.declared.grounds.Refusal.{Refusal}
use Rattle.rdp_state.specs.declared.Resumed as told
use Rattle.rdp_state.specs.Resume.{Resumed, resumed_in}
use Rattle.rdp_stream.specs.Steps.{open_of}
use Rattle.rdp_stream.specs.Arrivals.{known, IsOpen}
use Rattle.rdp_stream.specs.declared.arrival.Arrival.{Arrival}

pub known-open : (a : Arrival) → IsOpen a → known a ≡ open_of a.standing (take a.held_count a.held) a.taken a.place
known-open a e =
    λ i. record { standing = a.standing; held = take a.held_count a.held; taken = a.taken; number = number_if (e i); place = a.place }

pub known-whole : (a : Arrival) → IsOpen a → a.held_count ≡ 0 → known a ≡ open_of a.standing [] a.taken a.place
known-whole a e z = known-open a e ∙ (λ i. open_of a.standing (take (z i) a.held) a.taken a.place)

-- whether a refusal is remembered
pub none-open : (o : Option Ground) → is_some o ≡ false → o ≡ None
none-open None e = refl
none-open (Some g) e = absurd (true≢false e)

pub none_zero : (o : Option Ground) → is_some o ≡ false → number_if o ≡ 0
none_zero o e = ap number_if (none-open o e)

pub some-refused : (o : Option Ground) → is_some o ≡ true → number_if o ≡ 0 → ⊥
some-refused None e = absurd (true≢false (sym e))
some-refused (Some g) e = refused-number g

-- what is told of commands, by their outcome
module _ (r : told.Resumed) (q : Resumed) (is : resumed_in r ≡ q) where
  abbrev with_outcome : Result ℕ Refusal → Resumed
  with_outcome o = record { standing = r.standing; number = (answered o).number; place = (answered o).place }

  pub told-ok : (words : ℕ) → r.outcome ≡ Ok words → ◌≡◌ {A = Resumed} (record { standing = r.standing; number = 0; place = words }) q
  told-ok words e = ap with_outcome (sym e) ∙ is

  pub told-err :
      (refusal : Refusal) → r.outcome ≡ Err refusal →
      ◌≡◌ {A = Resumed} (record { standing = r.standing; number = number_of refusal.ground; place = refusal.place }) q
  told-err refusal e = ap with_outcome (sym e) ∙ is
