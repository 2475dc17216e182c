-- The second repair leaves the picture as it is: the other commands are the same, and a sync is no act and leaves the registers. Assumes nothing.
use Rattle.std.proofs.Common.{ℕ, ◌*◌, List, [], ◌∷◌, ◌≡◌, sym, ap, ap₂, ◌∙◌, take}
use Rattle.rdp_words.specs.Lengths.{first_number}
use Rattle.rdp_command.specs.Decode.{decode_of}
use Rattle.rdp_check.specs.Commands.{commands_of}
use Rattle.rdp_check.specs.Registers.{no_registers, after_decoded}
use Rattle.rdp_check.specs.Check.{outcome_of}
use Rattle.rdp_check.specs.declared.Registers.{Registers}
use Rattle.rdp_repair.specs.Afresh.{others, LeastAfresh, AfreshIs}
use Rattle.rdp_repair.specs.Repair.{Repaired}
use Rattle.rdp_repair.proofs.AfreshLaws.{SyncCase, sync, other, sync-case, is-sync, others-none, others-drop, others_keep, sync-registers}
use Rattle.rdp_draw.specs.Draw.{Act, Memories, act_of_decoded}
use Rattle.rdp_draw.proofs.ActLaws.{with_alone, acts_among, sync-silent, same_number, same-memories}
use Rattle.rdp_view.specs.View.{view_out}
use Rattle.rdp_view.specs.Picture.{SamePicture}

-- the acts of commands are those of the commands that remain without syncs
remain : (r : Registers) (cs : List (List ℕ)) → acts_among r (others cs) ≡ acts_among r cs
remain r [] = ap (acts_among r) others-none
remain r (c ∷ cs) = by-case (sync-case (first_number c)) (remain r cs) (remain (after_decoded r (decode_of c)) cs)
  where
    by-case :
        SyncCase (first_number c) → acts_among r (others cs) ≡ acts_among r cs →
        acts_among (after_decoded r (decode_of c)) (others cs) ≡ acts_among (after_decoded r (decode_of c)) cs → acts_among r (others (c ∷ cs)) ≡ acts_among r (c ∷ cs)
    by-case (sync y e) here later =
        ap (acts_among r) (others-drop c cs (is-sync _ y e)) ∙
        here ∙
        sym (ap₂ (λ (a : Act) (q : Registers). with_alone a (acts_among q cs)) (sync-silent y r c e) (sync-registers r c y e))
    by-case (other e) here later = ap (acts_among r) (others_keep c cs e) ∙ ap (with_alone (act_of_decoded r (decode_of c))) later

-- lists that pass the check and have the same other commands are drawn alike
pub others-drawn : (s t : List ℕ) → (outcome_of s).number ≡ 0 → (outcome_of t).number ≡ 0 → others (commands_of t) ≡ others (commands_of s) → SamePicture s t
others-drawn s t s-passes t-passes kept =
    let same : acts_among no_registers (commands_of s) ≡ acts_among no_registers (commands_of t) =
    sym (remain no_registers (commands_of s)) ∙ ap (acts_among no_registers) (sym kept) ∙ remain no_registers (commands_of t) in
    let memories = same-memories s t s-passes t-passes same in
    record {
      number = λ start m. same_number s t s-passes t-passes same start _ _;
      memories = memories;
      picture = λ start m i out. ap (λ (x : Memories). view_out x.memory start i out) (memories start m);
    }

-- the list that the second repair is to write, and the one that it writes
pub least-drawn : {s t : List ℕ} {cycles : ℕ} → (outcome_of s).number ≡ 0 → LeastAfresh s t cycles → SamePicture s t
least-drawn {s} {t} passes is = others-drawn s t passes is.passes is.kept

pub afresh-drawn :
    {list work out work' out' : List ℕ} {r : Repaired} → (outcome_of list).number ≡ 0 → AfreshIs list work out r work' out' → r.number ≡ 0 →
    SamePicture list (take (8 * r.place) out')
afresh-drawn passes is zero = least-drawn passes (is.written zero)
