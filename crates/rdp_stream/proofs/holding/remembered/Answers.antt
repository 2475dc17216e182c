-- `rdp_stream::holding::remembered` meets its contract: a number that no ground has is none that is remembered. Assumes nothing.
use Rattle.std.proofs.Common.{ℕ, false, ◌≡◌, refl, sym, ne_eqb}
use Rattle.rdp_words.specs.Kinds.{among}
use Rattle.rdp_words.specs.Grounds.{IsNoGround}
use Rattle.rdp_words.specs.declared.grounds.Ground.TheVariants.{TooLong, NotWords, Cut, AfterSyncFull, Unset, FillOnFourBits, LoadMissing, TileMissing, PipeMissing, Unassigned}
use Rattle.rdp_stream.specs.Records.{remembered}
use Rattle.rdp_stream.proofs.holding.remembered.Goals as goal

no-number : (n : ℕ) → (n ≡ 0 → ⊥) → IsNoGround n → among n remembered ≡ false
no-number n z none =
    rw (
      ne_eqb n 0 z,
      ne_eqb n 1 (λ e. none TooLong (sym e)),
      ne_eqb n 2 (λ e. none NotWords (sym e)),
      ne_eqb n 3 (λ e. none Cut (sym e)),
      ne_eqb n 4 (λ e. none AfterSyncFull (sym e)),
      ne_eqb n 5 (λ e. none Unset (sym e)),
      ne_eqb n 6 (λ e. none FillOnFourBits (sym e)),
      ne_eqb n 7 (λ e. none LoadMissing (sym e)),
      ne_eqb n 8 (λ e. none TileMissing (sym e)),
      ne_eqb n 9 (λ e. none PipeMissing (sym e)),
      ne_eqb n 19 (λ e. none Unassigned (sym e)),
    )

pub returns-in_default-2 : goal.returns-in_default-2
returns-in_default-2 c = (refl, no-number c.args.number c.if-number-eq0.false c.in_default.ensures)
