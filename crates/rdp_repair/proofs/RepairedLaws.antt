-- The repaired list is a least repair of the given one, and a list that passes is repaired into itself. Assumes nothing.
use Rattle.std.proofs.Common.{◌≡◌, refl, sym, ap, ◌∙◌, subst, List, [], ◌∷◌, ℕ, zero, suc, ◌+◌, ◌*◌, ◌%◌, min, ◌≤◌, le_antisymm, arith, eqb, ltb, length, length-append, le-ltb, ltb-false, eq-eqb, eqb-true}
use Rattle.std.proofs.Math.ListN.{length-map}
use Rattle.rdp_words.specs.Lengths.{first_number}
use Rattle.rdp_words.proofs.Tests.{by-test}
use Rattle.rdp_check.specs.Commands.{commands_of, rest_of, joined}
use Rattle.rdp_check.specs.Check.{start, Refusals, check_refusals, repair_refusals, judge_list, outcome_within, outcome_of}
use Rattle.rdp_check.specs.Refusals.{of_commands, Free}
use Rattle.rdp_repair.specs.Inserted.{Inserted, end, keep, insert, MadeByInserting}
use Rattle.rdp_hazards.specs.Syncs.{Sync, sync_word}
use Rattle.rdp_repair.specs.Plan.{sync_at, with_option, applied, wait_of, cycles_of}
use Rattle.rdp_repair.specs.Best.{best, plan, command_numbers, planned, repaired_bytes, least_cycles}
use Rattle.rdp_repair.specs.Work.{inserts_of}
use Rattle.rdp_repair.specs.Repair.{Makes, LeastRepair}
use Rattle.rdp_repair.proofs.SyncLaws.{sync-word, sync-number, wait-some}
use Rattle.rdp_repair.proofs.LeastLaws.{Passes, length-plan, cycles-plan, applied-inserted, planned-inserted, planned-passes, planned-least, plan-first, Single, least-single, first-unique}
use Rattle.rdp_check.proofs.JoinLaws.{Alone, AllAlone, commands-joined, rest-joined, length-joined, count-joined, parsed, joined-whole}
use Rattle.rdp_check.proofs.FirstLaws.{Numbered, check-numbered, judge-free, check-first}
use Rattle.rdp_repair.proofs.JudgeLaws.{Accepted, judge-accepted, accepted-judge, accepted-loose, accepted-passes, accepted-strict, applied-accepted}

-- ---- a list with none of the refusals

pub record Sound (refusals : Refusals) (s : List ℕ) : Type 0 where
  pub short : length s ≤ 16384
  pub words : length s % 8 ≡ 0
  pub none : rest_of s ≡ []
  pub accepted : Accepted refusals start (commands_of s)

pub sound : (refusals : Refusals) → Numbered refusals → (s : List ℕ) → (outcome_within 2048 refusals s).number ≡ 0 → Sound refusals s
unfolding outcome_within
sound refusals known s e =
    by-test (ltb 16384 (length s)) (λ t. absurd (omega (arith, rw t at e)))
    (λ f.
    by-test (eqb (length s % 8) 0)
    (λ t.
    let r = judge-accepted refusals known start 0 (commands_of s) (rest_of s) (rw (f, t) at e) in
    record { short = ltb-false _ _ f; words = eqb-true _ _ t; none = r.1; accepted = r.0 })
    (λ g. absurd (omega (arith, rw (f, g) at e))))

-- ---- inserting keeps commands whole

sync-alone : (y : Sync) → Alone (sync_word y)
sync-alone y = rw (sync-number y, (sync-word y).words)

pub alone-inserted : {cs ds : List (List ℕ)} {k : ℕ} → Inserted cs ds k → AllAlone cs → AllAlone ds
alone-inserted end h = tt
alone-inserted (keep s) h = (h.0, alone-inserted s h.1)
alone-inserted (insert y s) h = (sync-alone y, alone-inserted s h)

-- ---- the length of the repaired list

length-with : (a : ℕ) (c : List ℕ) (cs : List (List ℕ)) → length (joined (with_option a c cs)) ≡ 8 * min a 1 + (length c + length (joined cs))
unfolding with_option
length-with zero c cs = omega (arith, length-append c (joined cs))
length-with (suc a) c cs = omega (arith, length-append c (joined cs))

-- a plan inserts a word for each option that is not nothing
length-applied : (p : List ℕ) (cs : List (List ℕ)) → length p ≡ length cs → length (joined (applied p cs)) ≡ 8 * inserts_of p + length (joined cs)
unfolding applied inserts_of
length-applied [] [] e = refl
length-applied [] (c ∷ cs) e = absurd (omega arith)
length-applied (a ∷ p) [] e = absurd (omega arith)
length-applied (a ∷ p) (c ∷ cs) e =
    omega (arith, length-with a c (applied p cs), length-applied p cs (omega arith), length-append c (joined cs))

pub inserts-most : (p : List ℕ) → inserts_of p ≤ length p
unfolding inserts_of
inserts-most [] = omega arith
inserts-most (a ∷ p) = omega (arith, inserts-most p)

pub plan-long : (cs : List (List ℕ)) (m : ℕ) → length (plan (command_numbers cs) m) ≡ length cs
plan-long cs m = length-plan (command_numbers cs) m ∙ length-map cs first_number

module _ (s : List ℕ) (none : rest_of s ≡ []) where
  -- at most a command a word
  pub count_most : 8 * length (commands_of s) ≤ length s
  count_most =
      let a = (parsed s).alone in
      omega (arith, count-joined (commands_of s) a, length-joined (commands_of s) a, ap length (joined-whole s none))

  pub length-repaired : length (repaired_bytes s) ≡ 8 * inserts_of (plan (command_numbers (commands_of s)) 0) + length s
  unfolding repaired_bytes planned
  length-repaired =
      let p = plan (command_numbers (commands_of s)) 0 in
      length-applied p (commands_of s) (plan-long (commands_of s) 0) ∙
      ap (λ (l : List ℕ). 8 * inserts_of p + length l) (joined-whole s none)

  -- at most a sync a command
  pub repaired-most : length (repaired_bytes s) ≤ 2 * length s
  repaired-most =
      omega
      (arith, length-repaired, inserts-most (plan (command_numbers (commands_of s)) 0), plan-long (commands_of s) 0, count_most)

  -- a list made by inserting has the commands that it was made of
  commands-made : {ds : List (List ℕ)} {k : ℕ} → Inserted (commands_of s) ds k → commands_of (joined ds) ≡ ds
  commands-made {ds} i = commands-joined ds (alone-inserted i (parsed s).alone)

  -- where it has none of refusals 3 to 9 and 19, no sync is missing
  made-passes :
      {ds : List (List ℕ)} {k : ℕ} (u : List ℕ) → Inserted (commands_of s) ds k → joined ds ≡ u → Free check_refusals u → Passes 0 ds
  made-passes {ds} u i e h =
      accepted-passes start ds
      (subst (Accepted check_refusals start) (ap commands_of (sym e) ∙ commands-made i) (judge-accepted check_refusals check-numbered start 0 (commands_of u) (rest_of u) (judge-free check_refusals u check-numbered h)).0)

-- ---- the repaired list

module _ (s : List ℕ) (given : Sound repair_refusals s) where
  abbrev cs : List (List ℕ)
  cs = commands_of s

  abbrev none : rest_of s ≡ []
  none = given.none

  planned-alone : AllAlone (planned cs)
  planned-alone = alone-inserted (planned-inserted cs) (parsed s).alone

  planned-accepted : Accepted check_refusals start (planned cs)
  unfolding planned
  planned-accepted = accepted-strict start (planned cs) (applied-accepted (plan (command_numbers cs) 0) start cs given.accepted) (planned-passes cs)

  repaired-judged : (judge_list check_refusals (repaired_bytes s)).number ≡ 0
  unfolding repaired_bytes
  repaired-judged =
      rw (commands-joined (planned cs) planned-alone, rest-joined (planned cs) planned-alone) (accepted-judge check_refusals start 0 (planned cs) planned-accepted)

  repaired-passes : (outcome_of (repaired_bytes s)).number ≡ 0
  unfolding outcome_within
  repaired-passes =
      let short : length (repaired_bytes s) ≤ 32768 = omega (arith, repaired-most s none, given.short) in
      let whole : length (repaired_bytes s) % 8 ≡ 0 = omega (arith, length-repaired s none, given.words) in
      rw (le-ltb _ _ short, eq-eqb _ _ whole) repaired-judged

  pub least-repair : LeastRepair s (repaired_bytes s) (least_cycles s)
  unfolding MadeByInserting Makes repaired_bytes planned
  least-repair =
      record {
        inserted = (planned cs, planned-inserted cs, refl, none);
        passes = repaired-passes;
        least = λ u k i h. planned-least i.1 (made-passes s none u i.1 i.2 h);
        planned =
            λ u i h.
            let r : Single cs i.0 (best (command_numbers cs) 0) = least-single i.1 (made-passes s none u i.1 i.2 h) refl in
            (r.options, (r.one_each, ap joined r.makes ∙ i.2), r.waits);
        first = (
          plan (command_numbers cs) 0,
          (plan-long cs 0, refl),
          cycles-plan (command_numbers cs) 0,
          (λ q u m h e. plan-first cs q m.0 (made-passes s none u (applied-inserted q cs m.0) m.1 h) e),
        );
      }

-- ---- there is one least repair: that list, with those cycles

pub passes-free : (t : List ℕ) → (outcome_of t).number ≡ 0 → Free check_refusals t
passes-free t e n p h = ((check-first t).accepted e).1 n p (of_commands n p h)

pub least-unique : {s t u : List ℕ} {k j : ℕ} → LeastRepair s t k → LeastRepair s u j → (t ≡ u) × (k ≡ j)
unfolding Makes
least-unique {s} {t} {u} {k} {j} a b =
    let t-passes = passes-free t a.passes in
    let u-passes = passes-free u b.passes in
    let e : k ≡ j = le_antisymm (a.least u j b.inserted u-passes) (b.least t k a.inserted t-passes) in
    let p = a.first in
    let q = b.first in
    let same : p.0 ≡ q.0 =
    first-unique (p.3 q.0 u q.1 u-passes (q.2 ∙ sym e)) (q.3 p.0 t p.1 t-passes (p.2 ∙ e)) in
    (sym p.1.1 ∙ ap (λ (l : List ℕ). joined (applied l (commands_of s))) same ∙ q.1.1, e)

-- ---- a list that passes already

kept : (cs : List (List ℕ)) → Inserted cs cs 0
kept [] = end
kept (c ∷ cs) = keep (kept cs)

none-applied : (p : List ℕ) (cs : List (List ℕ)) → cycles_of p ≡ 0 → applied p cs ≡ cs
unfolding applied cycles_of with_option wait_of
none-applied p [] e = refl
none-applied [] (c ∷ cs) e = refl
none-applied (zero ∷ p) (c ∷ cs) e = ap (λ (x : List (List ℕ)). c ∷ x) (none-applied p cs (omega arith))
none-applied (suc a ∷ p) (c ∷ cs) e = absurd (omega (arith, wait-some (sync_at a)))

-- a list of at most 2,048 words that the check accepts is its own least repair, of 0 cycles
pub passes_kept : (s : List ℕ) → (outcome_within 2048 check_refusals s).number ≡ 0 → LeastRepair s s 0
unfolding repaired_bytes planned
passes_kept s e =
    let cs = commands_of s in
    let t = sound check_refusals check-numbered s e in
    let zero-best : best (command_numbers cs) 0 ≡ 0 = omega (arith, planned-least (kept cs) (accepted-passes start cs t.accepted)) in
    let itself : repaired_bytes s ≡ s =
    ap joined (none-applied (plan (command_numbers cs) 0) cs (cycles-plan (command_numbers cs) 0 ∙ zero-best)) ∙ joined-whole s t.none in
    let loose : Sound repair_refusals s = record { short = t.short; words = t.words; none = t.none; accepted = accepted-loose start cs t.accepted } in
    subst (λ (k : ℕ). LeastRepair s s k) zero-best (subst (λ (u : List ℕ). LeastRepair s u (least_cycles s)) itself (least-repair s loose))
