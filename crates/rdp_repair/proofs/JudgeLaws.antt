-- The judgement of commands by structural recursion, what 7 to 9 add to it, and what inserted syncs do to it. Assumes nothing.
use Rattle.std.proofs.Common.{◌≡◌, refl, sym, ap, ◌∙◌, subst, false, ◌||◌, List, [], ◌∷◌, ℕ, zero, suc, ◌+◌, arith, eqb}
use borrow.Author.Tests.{eqb-false}
use Rattle.rdp_words.proofs.Tests.{false_of}
use Rattle.rdp_words.specs.Words.{word_at}
use Rattle.rdp_words.specs.Kinds.{words_of}
use Rattle.rdp_words.specs.Lengths.{first_number}
use Rattle.rdp_command.specs.Decode.{decode_of}
use Rattle.rdp_hazards.specs.Hazards.{next_of, required_of}
use Rattle.rdp_check.specs.Registers.{registers_after, after_decoded}
use Rattle.rdp_check.specs.declared.Registers.{Registers}
use Rattle.rdp_check.specs.Check.{State, after_command, Refusals, own_refusals, sync_refusals, check_refusals, repair_refusals, refusal_at, Judgement, settle, judge}
use Rattle.rdp_check.specs.Order.{None}
use Rattle.rdp_hazards.specs.Syncs.{Sync, load_sync, tile_sync, pipe_sync, sync_number, sync_word}
use Rattle.rdp_repair.specs.Plan.{sync_at, with_option, applied}
use Rattle.rdp_words.proofs.PlaceLaws.{number_small}
use Rattle.rdp_hazards.proofs.HazardLaws.{required-most}
use Rattle.rdp_repair.proofs.SyncLaws.{sync_command, sync-word, sync-number, sync-draws, sync-assigned}
use Rattle.rdp_check.proofs.OrderLaws.{none-parts, none_both, none_first, first-none}
use Rattle.rdp_check.proofs.FirstLaws.{Numbered}
use Rattle.rdp_repair.proofs.LeastLaws.{Passes}

-- no command is refused
abbrev pub Accepted : Refusals → State → List (List ℕ) → Type 0
Accepted refusals s [] = Unit {0}
Accepted refusals s (c ∷ cs) = None (refusals s c) × Accepted refusals (after_command s c) cs

settled-zero : (g at : ℕ) (s : State) (next : Judgement) → (settle g at s next).number ≡ 0 → (g ≡ 0) × (next.number ≡ 0)
settled-zero zero at s next e = (refl, e)
settled-zero (suc g) at s next e = absurd (omega arith)

-- a judgement of 0 says that no command is refused, and that none runs past the end
pub judge-accepted :
    (refusals : Refusals) → Numbered refusals → (s : State) (at : ℕ) (cs : List (List ℕ)) (rest : List ℕ) → (judge refusals s at cs rest).number ≡ 0 →
    Accepted refusals s cs × (rest ≡ [])
unfolding judge
judge-accepted refusals known s at [] [] e = (tt, refl)
judge-accepted refusals known s at [] (b ∷ rest) e = absurd (omega arith)
judge-accepted refusals known s at (c ∷ cs) rest e =
    let h = settled-zero (refusal_at refusals s c) at s (judge refusals (after_command s c) (at + words_of (first_number c)) cs rest) e in
    let r = judge-accepted refusals known (after_command s c) (at + words_of (first_number c)) cs rest h.1 in
    ((first-none (refusals s c) 0 (known s c) h.0, r.0), r.1)

pub accepted-judge : (refusals : Refusals) (s : State) (at : ℕ) (cs : List (List ℕ)) → Accepted refusals s cs → (judge refusals s at cs []).number ≡ 0
unfolding judge
accepted-judge refusals s at [] h = refl
accepted-judge refusals s at (c ∷ cs) h =
    rw (none_first (refusals s c) 0 h.0) (accepted-judge refusals (after_command s c) (at + words_of (first_number c)) cs h.1)

-- ---- the check's: besides, no sync is missing

pub accepted-loose : (s : State) (cs : List (List ℕ)) → Accepted check_refusals s cs → Accepted repair_refusals s cs
accepted-loose s [] h = tt
accepted-loose s (c ∷ cs) h = ((none-parts (own_refusals s c) (sync_refusals s c) h.0).0, accepted-loose (after_command s c) cs h.1)

sync-none : (s : State) (c : List ℕ) → None (sync_refusals s c) → required_of s.hazards (first_number c) ≡ 0
unfolding sync_refusals
sync-none s c h =
    let q = required_of s.hazards (first_number c) in
    omega (
      arith,
      required-most s.hazards (first_number c) (number_small (word_at c 0)),
      eqb-false q 1 (false_of _ h.0),
      eqb-false q 2 (false_of _ h.1.0),
      eqb-false q 3 (false_of _ h.1.1.0),
    )

none-sync : (s : State) (c : List ℕ) → required_of s.hazards (first_number c) ≡ 0 → None (sync_refusals s c)
unfolding sync_refusals
none-sync s c e = rw e (tt, (tt, (tt, tt)))

pub accepted-passes : (s : State) (cs : List (List ℕ)) → Accepted check_refusals s cs → Passes s.hazards cs
unfolding after_command
accepted-passes s [] h = tt
accepted-passes s (c ∷ cs) h = (sync-none s c (none-parts (own_refusals s c) (sync_refusals s c) h.0).1, accepted-passes (after_command s c) cs h.1)

pub accepted-strict : (s : State) (cs : List (List ℕ)) → Accepted repair_refusals s cs → Passes s.hazards cs → Accepted check_refusals s cs
unfolding after_command
accepted-strict s [] h p = tt
accepted-strict s (c ∷ cs) h p =
    (none_both (own_refusals s c) (sync_refusals s c) h.0 (none-sync s c p.0), accepted-strict (after_command s c) cs h.1 p.1)

-- ---- inserted syncs

abbrev pub with_hazards : ℕ → State → State
with_hazards m s = record { hazards = m; ended = s.ended; registers = s.registers }

-- a sync changes nothing but the hazards
pub command-keeps : (y : Sync) (r : Registers) → registers_after r (sync_command y) ≡ r
unfolding registers_after
command-keeps load_sync r = refl
command-keeps tile_sync r = refl
command-keeps pipe_sync r = refl

pub not_full : (y : Sync) → eqb (sync_number y) 0x29 ≡ false
not_full load_sync = refl
not_full tile_sync = refl
not_full pipe_sync = refl

after-sync : (y : Sync) (s : State) → after_command s (sync_word y) ≡ with_hazards (next_of s.hazards (sync_number y)) s
unfolding after_command
after-sync y s =
    let registers : after_decoded s.registers (decode_of (sync_word y)) ≡ s.registers =
    ap (after_decoded s.registers) (sync-word y).decoded ∙ command-keeps y s.registers in
    let ended : eqb (first_number (sync_word y)) 0x29 || s.ended ≡ s.ended = rw (sync-number y, not_full y) in
    λ i. record { hazards = next_of s.hazards (sync-number y i); ended = ended i; registers = registers i }

-- 7 to 9 passed over, the hazards do not count
pub any-hazards : (m : ℕ) (s : State) (cs : List (List ℕ)) → Accepted repair_refusals s cs → Accepted repair_refusals (with_hazards m s) cs
unfolding after_command own_refusals
any-hazards m s [] h = tt
any-hazards m s (c ∷ cs) h = (h.0, any-hazards (next_of m (first_number c)) (after_command s c) cs h.1)

-- where a command is not refused, a sync is not refused either
sync-fits : (y : Sync) (s : State) (c : List ℕ) → None (own_refusals s c) → None (own_refusals s (sync_word y))
unfolding own_refusals
sync-fits y s c h = rw (sync-draws y, sync-assigned y) (h.0, (tt, (tt, (tt, tt))))

with-accepted : (a : ℕ) (s : State) (c : List ℕ) (cs : List (List ℕ)) → Accepted repair_refusals s (c ∷ cs) → Accepted repair_refusals s (with_option a c cs)
unfolding with_option
with-accepted zero s c cs h = h
with-accepted (suc a) s c cs h = (
  sync-fits (sync_at a) s c h.0,
  subst (λ (x : State). Accepted repair_refusals x (c ∷ cs)) (sym (after-sync (sync_at a) s)) (any-hazards (next_of s.hazards (sync_number (sync_at a))) s (c ∷ cs) h),
)

pub applied-accepted : (p : List ℕ) (s : State) (cs : List (List ℕ)) → Accepted repair_refusals s cs → Accepted repair_refusals s (applied p cs)
unfolding applied
applied-accepted p s [] h = tt
applied-accepted [] s (c ∷ cs) h = h
applied-accepted (a ∷ p) s (c ∷ cs) h = with-accepted a s c (applied p cs) (h.0, applied-accepted p (after_command s c) cs h.1)
