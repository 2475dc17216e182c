-- An option's word, and what one command adds to the output. Assumes nothing.
use Rattle.std.proofs.Common.{◌≡◌, refl, ap, ◌∙◌, Option, Some, None, min, List, [], ◌∷◌, ◌++◌, ℕ, zero, suc, ◌+◌, ◌*◌, ◌/◌, ◌%◌, length, get_or, drop}
use mir.Val.{bool_byte}
use Rattle.std.specs.Option.{is_some}
use Rattle.rdp_check.specs.Commands.{joined}
use Rattle.rdp_words.specs.Words.{bare_word}
use Rattle.rdp_hazards.specs.declared.Sync as declared
use Rattle.rdp_hazards.specs.declared.Sync.TheVariants.{Load, Tile, Pipe}
use Rattle.rdp_hazards.specs.Hazards.{code_in}
use Rattle.rdp_hazards.specs.Syncs.{sync_in, sync_number}
use Rattle.rdp_repair.specs.Plan.{sync_at, with_option, applied}
use Rattle.rdp_repair.specs.Work.{options_in, option_bytes}
use Rattle.rdp_repair.proofs.ForwardLaws.{options-at}

-- the bytes of a sync that may be there
pub sync-none : (s : Option declared.Sync) → s ≡ None → option_bytes (code_in s) ≡ []
unfolding option_bytes
sync-none s e = ap (λ (x : Option declared.Sync). option_bytes (code_in x)) e

pub sync-some : (s : Option declared.Sync) (x : declared.Sync) → s ≡ Some x → option_bytes (code_in s) ≡ bare_word (sync_number (sync_in x))
unfolding option_bytes sync_at
sync-some s Load e = ap (λ (y : Option declared.Sync). option_bytes (code_in y)) e
sync-some s Tile e = ap (λ (y : Option declared.Sync). option_bytes (code_in y)) e
sync-some s Pipe e = ap (λ (y : Option declared.Sync). option_bytes (code_in y)) e

-- how many words it is
pub sync-counted : (s : Option declared.Sync) → bool_byte (is_some s) ≡ min (code_in s) 1
sync-counted None = refl
sync-counted (Some Load) = refl
sync-counted (Some Tile) = refl
sync-counted (Some Pipe) = refl

-- ---- a command with its option

pub joined-with : (a : ℕ) (c : List ℕ) (cs : List (List ℕ)) → joined (with_option a c cs) ≡ option_bytes a ++ (c ++ joined cs)
unfolding with_option option_bytes
joined-with zero c cs = refl
joined-with (suc a) c cs = refl

pub applied-next :
    (c : List ℕ) (cs : List (List ℕ)) (work : List ℕ) (i m : ℕ) →
    joined (applied (options_in (length (c ∷ cs)) (drop (16 * i) work) m) (c ∷ cs)) ≡
    option_bytes (get_or work (16 * i + m) 0 / 16) ++
    (c ++ joined (applied (options_in (length cs) (drop (16 * (i + 1)) work) (get_or work (16 * i + m) 0 % 16)) cs))
unfolding applied
applied-next c cs work i m =
    let choice : ℕ = get_or work (16 * i + m) 0 in
    ap (λ (p : List ℕ). joined (applied p (c ∷ cs))) (options-at work i m (length cs)) ∙
    joined-with (choice / 16) c (applied (options_in (length cs) (drop (16 * (i + 1)) work) (choice % 16)) cs)
