-- Document 02, #111, as laws of what the three functions answer and write. Assumes nothing.
use Rattle.std.proofs.Common.{◌≡◌, sym, ap, ◌∙◌, subst, List, ◌∷◌, ◌++◌, ℕ, ◌+◌, ◌*◌, ◌/◌, ◌%◌, ◌≤◌, arith, length}
use Rattle.rdp_words.specs.Kinds.{words_of}
use Rattle.rdp_words.specs.Lengths.{first_number, whole_words}
use Rattle.rdp_words.specs.Grounds.{Answer}
use Rattle.rdp_command.specs.Decode.{answer}
use Rattle.rdp_check.specs.Commands.{commands_of, words_in}
use Rattle.rdp_check.specs.Check.{start}
use Rattle.rdp_check.specs.Refusals.{state_after}
use Rattle.rdp_index.specs.Index.{entries_of, entry_count, build_answer, BuildIs, last_before, asked_at, ask_of, replace_answer, with_command, renewed, ReplaceIs}
use Rattle.rdp_index.proofs.BuiltLaws.{through-state, ask-built, EntryAt, entry-built, count-built}
use Rattle.rdp_index.proofs.BoundLaws.{ask-bounds}
use Rattle.rdp_index.proofs.ReplaceLaws.{Replaced, replaced, new-whole, answer-fits, room-enough, accepted}
use Rattle.rdp_index.proofs.RenewLaws.{kept-own, renewed-built, rebuilt}

-- "for entries built from this list the marks equal those of the full walk, missing syncs passed over": where building answers 0, the question at the
-- place of any command of the list answers 0 and the hazards of the state that the commands before it leave
pub marks-equal :
    (list old : List ℕ) → (build_answer list old).number ≡ 0 →
    (before : List (List ℕ)) (c : List ℕ) (after : List (List ℕ)) → commands_of list ≡ before ++ c ∷ after →
    ask_of list (entries_of list) (words_in before) ≡ asked_at (words_in before) (state_after start before).hazards (length before % 64 + 1)
marks-equal list old z before c after e =
    let w = room-enough list old z in
    ask-built list before c after w.short w.words e ∙
    ap (λ (m : ℕ). asked_at (words_in before) m (length before % 64 + 1)) (sym (through-state start before))

-- "at every 64th command, from the first, its place and the marks before it": entry i is that of command 64 i, and there is one for each 64 commands begun
pub entry_at :
    (list : List ℕ) (i : ℕ) (before : List (List ℕ)) (c : List ℕ) (after : List (List ℕ)) → commands_of list ≡ before ++ c ∷ after →
    length before ≡ 64 * i → EntryAt list i before
entry_at = entry-built

pub entry-count : (list : List ℕ) → entry_count list ≡ (length (commands_of list) + 63) / 64
entry-count = count-built

-- "reads at most 64 commands", whatever the entries are
pub reads-few : (list es : List ℕ) (place : ℕ) → (ask_of list es place).read ≤ 64
reads-few list es place = (ask-bounds (4096 + place) (omega arith) list es place (omega arith)).read

-- a replacement exchanges one command of the list and keeps all others
pub exchanges :
    (list es : List ℕ) (place : ℕ) (new : List ℕ) → (replace_answer list es place new).number ≡ 0 → Replaced list place new (with_command list place new)
exchanges list es place new z = replaced list es place new (answer-fits list es place new z)

-- "entries up to that command, its own included, are untouched": so many are kept
pub keeps :
    (list : List ℕ) (before : List (List ℕ)) (c : List ℕ) (after : List (List ℕ)) → commands_of list ≡ before ++ c ∷ after →
    last_before (words_in before) (entries_of list) (length (entries_of list) / 2) ≡ length before / 64 + 1
keeps = kept-own

-- "afterwards all later entries equal those built from nothing": and where the entries were built from the old list, all are, with what follows them
-- untouched
pub renews :
    (list more : List ℕ) (place : ℕ) (new : List ℕ) → (replace_answer list (entries_of list ++ more) place new).number ≡ 0 →
    renewed (entries_of (with_command list place new)) place (entries_of list ++ more) ≡ entries_of (with_command list place new) ++ more
renews list more place new z = renewed-built list more place new (answer-fits list (entries_of list ++ more) place new z)

-- by the contracts: building again from the new list, into what replacing left, answers 0 and leaves just that
pub rebuilds :
    (list more : List ℕ) (place : ℕ) (new : List ℕ) (r : Answer) (list' es' : List ℕ) →
    ReplaceIs list (entries_of list ++ more) place new r list' es' → r.number ≡ 0 → BuildIs list' es' (answer 0 (entry_count list')) es'
rebuilds list more place new r list' es' is z =
    let zero : (replace_answer list (entries_of list ++ more) place new).number ≡ 0 = sym (ap (λ (a : Answer). a.number) is.answers) ∙ z in
    let f = answer-fits list (entries_of list ++ more) place new zero in
    let there : list' ≡ with_command list place new = is.writes z in
    let left : es' ≡ entries_of (with_command list place new) ++ more = is.renews z ∙ renews list more place new zero in
    subst (λ (l : List ℕ). BuildIs l es' (answer 0 (entry_count l)) es') (sym there)
    (subst (λ (l : List ℕ). BuildIs (with_command list place new) l (answer 0 (entry_count (with_command list place new))) l) (sym left)
    (rebuilt (with_command list place new) more (new-whole list (entries_of list ++ more) place new f).0))

-- for entries built from this list, a whole command of equal length is taken at the place of every command
pub takes :
    (list old : List ℕ) → (build_answer list old).number ≡ 0 →
    (before : List (List ℕ)) (c : List ℕ) (after : List (List ℕ)) → commands_of list ≡ before ++ c ∷ after →
    (new : List ℕ) → (whole_words new ≡ 0 → ⊥) → whole_words new ≡ words_of (first_number c) →
    replace_answer list (entries_of list) (words_in before) new ≡ answer 0 (words_in before)
takes = accepted
