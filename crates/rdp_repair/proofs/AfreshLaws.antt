-- The list without its syncs: its first repair waits least of all lists with its commands, whatever syncs these have. Assumes nothing.
use Rattle.std.proofs.Common.{◌≡◌, refl, sym, ap, ap₂, ◌∙◌, subst, true, false, ◌||◌, true≢false, List, [], ◌∷◌, map, ⊎_elim, ℕ, ◌+◌, ◌*◌, ◌≤◌, arith, eqb, length, eqb-true}
use Rattle.rdp_words.specs.Words.{bare_word}
use Rattle.rdp_words.specs.Lengths.{first_number}
use Rattle.rdp_words.proofs.Tests.{by-test}
use Rattle.rdp_command.specs.Decode.{decode_of}
use Rattle.rdp_hazards.specs.Hazards.{next_of, required_of}
use Rattle.rdp_hazards.specs.Syncs.{Sync, load_sync, tile_sync, pipe_sync, sync_number, sync_wait, sync_word, command_wait, waiting}
use Rattle.rdp_check.specs.Commands.{commands_of, rest_of, words_in, joined}
use Rattle.rdp_check.specs.Registers.{after_decoded}
use Rattle.rdp_check.specs.declared.Registers.{Registers}
use Rattle.rdp_check.specs.Check.{State, start, after_command, check_refusals, repair_refusals, outcome_of}
use Rattle.rdp_repair.specs.Inserted.{Inserted, end, keep, insert}
use Rattle.rdp_repair.specs.Plan.{applied, cycles_of, TiesFirst}
use Rattle.rdp_repair.specs.Best.{best, plan, command_numbers, planned, repaired_bytes, least_cycles}
use Rattle.rdp_repair.specs.Repair.{LeastRepair}
use Rattle.rdp_repair.specs.Afresh.{is_forgotten, others, without, bare_sync, Serves, HasPlan, LeastAfresh}
use Rattle.rdp_check.proofs.JoinLaws.{AllAlone, commands-joined, rest-joined, length-joined, parsed, words_inside}
use Rattle.rdp_check.proofs.FirstLaws.{check-numbered, judge-free}
use Rattle.rdp_repair.proofs.SyncLaws.{sync-word, sync-number}
use Rattle.rdp_repair.proofs.LeastLaws.{Passes, passes_at, cycles-plan, planned-inserted, planned-least, plan-first, Single, least-single}
use Rattle.rdp_repair.proofs.JudgeLaws.{Accepted, judge-accepted, accepted-passes, any-hazards, with_hazards, command-keeps, not_full}
use Rattle.rdp_repair.proofs.RepairedLaws.{Sound, least-repair, least-unique, alone-inserted, plan-long, passes-free}

-- ---- by whether a command is a sync, and which

pub data SyncCase (n : ℕ) : Type 0 where
  sync : (y : Sync) → n ≡ sync_number y → SyncCase n
  other : is_forgotten n ≡ false → SyncCase n

pub sync-case : (n : ℕ) → SyncCase n
sync-case n =
    by-test (eqb n (sync_number load_sync)) (λ t. sync load_sync (eqb-true _ _ t))
    (λ a.
    by-test (eqb n (sync_number tile_sync)) (λ t. sync tile_sync (eqb-true _ _ t))
    (λ b. by-test (eqb n (sync_number pipe_sync)) (λ t. sync pipe_sync (eqb-true _ _ t)) (λ c. other (rw (a, b, c)))))

number-sync : (y : Sync) → is_forgotten (sync_number y) ≡ true
number-sync load_sync = refl
number-sync tile_sync = refl
number-sync pipe_sync = refl

pub is-sync : (n : ℕ) (y : Sync) → n ≡ sync_number y → is_forgotten n ≡ true
is-sync n y e = ap is_forgotten e ∙ number-sync y

word_sync : (y : Sync) → is_forgotten (first_number (sync_word y)) ≡ true
word_sync y = is-sync _ y (sync-number y)

-- ---- the commands that remain

pub others-none : others [] ≡ []
unfolding others
others-none = refl

module _ (c : List ℕ) (cs : List (List ℕ)) where
  pub others-drop : is_forgotten (first_number c) ≡ true → others (c ∷ cs) ≡ others cs
  unfolding others
  others-drop e = rw e

  pub others_keep : is_forgotten (first_number c) ≡ false → others (c ∷ cs) ≡ c ∷ others cs
  unfolding others
  others_keep e = rw e

-- what holds of all commands holds of those that remain; none of them is a sync
others-alone : (cs : List (List ℕ)) → AllAlone cs → AllAlone (others cs)
unfolding others
others-alone [] h = tt
others-alone (c ∷ cs) h =
    by-test (is_forgotten (first_number c)) (λ t. rw t (others-alone cs h.1)) (λ f. rw f (h.0, others-alone cs h.1))

others-words : (cs : List (List ℕ)) → words_in (others cs) ≤ words_in cs
unfolding others
others-words [] = omega arith
others-words (c ∷ cs) =
    by-test (is_forgotten (first_number c)) (λ t. rw t (omega (arith, others-words cs))) (λ f. rw f (omega (arith, others-words cs)))

others-twice : (cs : List (List ℕ)) → others (others cs) ≡ others cs
unfolding others
others-twice [] = refl
others-twice (c ∷ cs) =
    by-test (is_forgotten (first_number c)) (λ t. rw t (others-twice cs)) (λ f. rw (f, f, others-twice cs))

-- ---- their waiting

sync-waits : (y : Sync) → command_wait (sync_number y) ≡ sync_wait y
unfolding command_wait
sync-waits load_sync = refl
sync-waits tile_sync = refl
sync-waits pipe_sync = refl

other-waits : (n : ℕ) → is_forgotten n ≡ false → command_wait n ≡ 0
unfolding command_wait
other-waits n e =
    by-test (eqb n 0x26) (λ t. absurd (true≢false (sym (is-sync n load_sync (eqb-true _ _ t)) ∙ e)))
    (λ a.
    by-test (eqb n 0x28) (λ t. absurd (true≢false (sym (is-sync n tile_sync (eqb-true _ _ t)) ∙ e)))
    (λ b. by-test (eqb n 0x27) (λ t. absurd (true≢false (sym (is-sync n pipe_sync (eqb-true _ _ t)) ∙ e))) (λ d. rw (a, b, d))))

others-wait : (cs : List (List ℕ)) → waiting (others cs) ≡ 0
unfolding others waiting
others-wait [] = refl
others-wait (c ∷ cs) =
    by-test (is_forgotten (first_number c)) (λ t. rw t (others-wait cs)) (λ f. rw f (omega (arith, other-waits (first_number c) f, others-wait cs)))

-- ---- what is inserted

inserted-others : {cs ds : List (List ℕ)} {k : ℕ} → Inserted cs ds k → others ds ≡ others cs
unfolding others
inserted-others end = refl
inserted-others (keep {c = c} s) = rw (inserted-others s)
inserted-others (insert y s) = rw (word_sync y) (inserted-others s)

inserted-waits : {cs ds : List (List ℕ)} {k : ℕ} → Inserted cs ds k → waiting ds ≡ k + waiting cs
unfolding waiting
inserted-waits end = refl
inserted-waits (keep {c = c} s) = omega (arith, inserted-waits s)
inserted-waits (insert y s) = omega (arith, inserted-waits s, ap command_wait (sync-number y) ∙ sync-waits y)

-- ---- other bits of a sync don't count

plain_sync : (c : List ℕ) (y : Sync) → first_number c ≡ sync_number y → bare_sync c ≡ sync_word y
unfolding bare_sync
plain_sync c y e = rw (is-sync _ y e) (ap bare_word e)

plain_other : (c : List ℕ) → is_forgotten (first_number c) ≡ false → bare_sync c ≡ c
unfolding bare_sync
plain_other c e = rw e

plain-number : (c : List ℕ) → first_number (bare_sync c) ≡ first_number c
plain-number c = by-case (sync-case (first_number c))
  where
    by-case : SyncCase (first_number c) → first_number (bare_sync c) ≡ first_number c
    by-case (sync y e) = ap first_number (plain_sync c y e) ∙ sync-number y ∙ sym e
    by-case (other e) = ap first_number (plain_other c e)

plain_passes : (m : ℕ) (cs : List (List ℕ)) → Passes m cs → Passes m (map bare_sync cs)
plain_passes m [] h = tt
plain_passes m (c ∷ cs) h = (
  ap (required_of m) (plain-number c) ∙ h.0,
  passes_at (map bare_sync cs) (ap (next_of m) (sym (plain-number c))) (plain_passes (next_of m (first_number c)) cs h.1),
)

-- a list is made from the commands that remain by inserting its syncs
plain-with :
    (c : List ℕ) (cs : List (List ℕ)) → SyncCase (first_number c) → Inserted (others cs) (map bare_sync cs) (waiting cs) →
    Inserted (others (c ∷ cs)) (bare_sync c ∷ map bare_sync cs) (command_wait (first_number c) + waiting cs)
plain-with c cs (sync y e) h =
    rw (others-drop c cs (is-sync _ y e), plain_sync c y e, ap command_wait e ∙ sync-waits y) (insert y h)
plain-with c cs (other e) h =
    let k : waiting cs ≡ command_wait (first_number c) + waiting cs = omega (arith, other-waits (first_number c) e) in
    rw (others_keep c cs e, plain_other c e, ← k) (keep h)

plain-inserted : (cs : List (List ℕ)) → Inserted (others cs) (map bare_sync cs) (waiting cs)
unfolding others waiting
plain-inserted [] = end
plain-inserted (c ∷ cs) = plain-with c cs (sync-case (first_number c)) (plain-inserted cs)

-- ---- leaving syncs out keeps refusals 3 to 6 absent

-- a sync with any other bits leaves the registers, and changes nothing but the hazards
pub sync-registers : (r : Registers) (c : List ℕ) (y : Sync) → first_number c ≡ sync_number y → after_decoded r (decode_of c) ≡ r
sync-registers r c y e =
    ⊎_elim (λ whole. ap (after_decoded r) whole ∙ command-keeps y r) (λ cut. ap (after_decoded r) cut) ((sync-word y).any-bits c e)

pub after_any : (s : State) (c : List ℕ) (y : Sync) → first_number c ≡ sync_number y → after_command s c ≡ with_hazards (next_of s.hazards (first_number c)) s
unfolding after_command
after_any s c y e =
    let ended : eqb (first_number c) 0x29 || s.ended ≡ s.ended = rw (e, not_full y) in
    let registers = sync-registers s.registers c y e in
    λ i. record { hazards = next_of s.hazards (first_number c); ended = ended i; registers = registers i }

others-accepted : (s : State) (cs : List (List ℕ)) → Accepted repair_refusals s cs → Accepted repair_refusals s (others cs)
unfolding others
others-accepted s [] h = tt
others-accepted s (c ∷ cs) h = by-case (sync-case (first_number c)) (others-accepted (after_command s c) cs h.1) (λ m. others-accepted (with_hazards m s) cs)
  where
    by-case : SyncCase (first_number c) → Accepted repair_refusals (after_command s c) (others cs) →
        ((m : ℕ) → Accepted repair_refusals (with_hazards m s) cs → Accepted repair_refusals (with_hazards m s) (others cs)) → Accepted repair_refusals s (others (c ∷ cs))
    by-case (sync y e) later at =
        rw (others-drop c cs (is-sync _ y e))
        (at s.hazards (any-hazards s.hazards _ cs (subst (λ (x : State). Accepted repair_refusals x cs) (after_any s c y e) h.1)))
    by-case (other e) later at = rw (others_keep c cs e) (h.0, later)

module _ (s : List ℕ) where
  abbrev given : List (List ℕ)
  given = commands_of s

  remain-alone : AllAlone (others given)
  remain-alone = others-alone given (parsed s).alone

  pub commands-without : commands_of (without s) ≡ others given
  unfolding without
  commands-without = commands-joined (others given) remain-alone

  pub length_without : length (without s) ≡ 8 * words_in (others given)
  unfolding without
  length_without = length-joined (others given) remain-alone

  pub none-without : rest_of (without s) ≡ []
  unfolding without
  none-without = rest-joined (others given) remain-alone

  pub sound-without : Sound repair_refusals s → Sound repair_refusals (without s)
  sound-without h =
      record {
        short = omega (arith, length_without, others-words given, words_inside s, h.short);
        words = omega (arith, length_without);
        none = none-without;
        accepted = rw commands-without (others-accepted start given h.accepted);
      }

-- ---- the second repair waits least

abbrev AllPlain : List (List ℕ) → Type 0
AllPlain [] = Unit {0}
AllPlain (c ∷ cs) = (bare_sync c ≡ c) × AllPlain cs

map-plain : (cs : List (List ℕ)) → AllPlain cs → map bare_sync cs ≡ cs
map-plain [] h = refl
map-plain (c ∷ cs) h = ap₂ (λ (x : List ℕ) (xs : List (List ℕ)). x ∷ xs) h.0 (map-plain cs h.1)

others-plain : (cs : List (List ℕ)) → AllPlain (others cs)
unfolding others
others-plain [] = tt
others-plain (c ∷ cs) =
    by-test (is_forgotten (first_number c)) (λ t. rw t (others-plain cs)) (λ f. rw f (plain_other c f, others-plain cs))

inserted-plain : {cs ds : List (List ℕ)} {k : ℕ} → Inserted cs ds k → AllPlain cs → AllPlain ds
inserted-plain end h = tt
inserted-plain (keep s) h = (h.0, inserted-plain s h.1)
inserted-plain (insert y s) h = (plain_sync (sync_word y) y (sync-number y), inserted-plain s h)

-- commands that pass wait at least as long as the plan of those that remain, and where they wait as long, they have a plan, of which that is the first
module _ (us : List (List ℕ)) (passes : Passes 0 us) where
  least-waiting : best (command_numbers (others us)) 0 ≤ waiting us
  least-waiting = planned-least (plain-inserted us) (plain_passes 0 us passes)

  abbrev Planned : List (List ℕ) → Type 0
  Planned cs = (q : List ℕ) × (length q ≡ length cs) × (map bare_sync us ≡ applied q cs) × (cycles_of q ≡ waiting us) × TiesFirst (plan (command_numbers cs) 0) q

  first-waiting : waiting us ≡ best (command_numbers (others us)) 0 → Planned (others us)
  first-waiting e =
      let r : Single (others us) (map bare_sync us) (waiting us) = least-single (plain-inserted us) (plain_passes 0 us passes) e in (
        r.options,
        r.one_each,
        sym r.makes,
        r.waits,
        plan-first (others us) r.options r.one_each (subst (Passes 0) (sym r.makes) (plain_passes 0 us passes)) (r.waits ∙ e),
      )

serves-passes : (s u : List ℕ) → Serves s u → Passes 0 (commands_of u)
serves-passes s u h =
    accepted-passes start (commands_of u)
    (judge-accepted check_refusals check-numbered start 0 (commands_of u) (rest_of u) (judge-free check_refusals u check-numbered h.free)).0

module _ (s : List ℕ) (clean : Sound repair_refusals s) where
  abbrev remain : List (List ℕ)
  remain = others (commands_of s)

  abbrev t : List ℕ
  t = repaired_bytes (without s)

  planned-remain : Inserted remain (planned remain) (best (command_numbers remain) 0)
  planned-remain = planned-inserted remain

  made-alone : AllAlone (planned remain)
  made-alone = alone-inserted planned-remain (remain-alone s)

  bytes-are : t ≡ joined (planned remain)
  unfolding repaired_bytes
  bytes-are = ap (λ (cs : List (List ℕ)). joined (planned cs)) (commands-without s)

  commands-are : commands_of t ≡ planned remain
  commands-are = ap commands_of bytes-are ∙ commands-joined (planned remain) made-alone

  cycles-are : least_cycles (without s) ≡ best (command_numbers remain) 0
  cycles-are = ap (λ (cs : List (List ℕ)). best (command_numbers cs) 0) (commands-without s)

  all-waiting : best (command_numbers remain) 0 ≡ waiting (commands_of t)
  all-waiting = omega (arith, inserted-waits planned-remain, others-wait (commands_of s), ap waiting commands-are)

  has-plan : HasPlan s t (plan (command_numbers remain) 0)
  unfolding planned
  has-plan =
      record {
        one_each = plan-long remain 0;
        makes = ap (map bare_sync) commands-are ∙ map-plain (planned remain) (inserted-plain planned-remain (others-plain (commands_of s)));
        waits = cycles-plan (command_numbers remain) 0 ∙ all-waiting;
      }

  first_of :
      (u : List ℕ) → Serves s u → waiting (commands_of u) ≡ least_cycles (without s) →
      (q : List ℕ) × HasPlan s u q × TiesFirst (plan (command_numbers remain) 0) q
  first_of u h e =
      let same : best (command_numbers remain) 0 ≡ best (command_numbers (others (commands_of u))) 0 = ap (λ (cs : List (List ℕ)). best (command_numbers cs) 0) (sym h.kept) in
      let r : Planned (commands_of u) (serves-passes s u h) remain =
      subst (Planned (commands_of u) (serves-passes s u h)) h.kept (first-waiting (commands_of u) (serves-passes s u h) (e ∙ cycles-are ∙ same)) in
      (r.0, record { one_each = r.1; makes = r.2; waits = r.3 }, r.4)

  pub least-afresh : LeastAfresh s t (least_cycles (without s))
  least-afresh =
      let repair = least-repair (without s) (sound-without s clean) in
      record {
        kept = ap others commands-are ∙ inserted-others planned-remain ∙ others-twice (commands_of s);
        whole = ap rest_of bytes-are ∙ rest-joined (planned remain) made-alone;
        passes = repair.passes;
        waits = cycles-are ∙ all-waiting;
        least = λ u h.
            rw (cycles-are, ← h.kept) (least-waiting (commands_of u) (serves-passes s u h));
        first = (plan (command_numbers remain) 0, has-plan, first_of);
        repair = repair;
      }

-- there is one such list, with those cycles
pub afresh-unique : {s t u : List ℕ} {k j : ℕ} → LeastAfresh s t k → LeastAfresh s u j → (t ≡ u) × (k ≡ j)
afresh-unique a b = least-unique a.repair b.repair

-- ---- laws of the second repair's list

-- where the given list passes, it waits no longer than that
pub afresh-saves : {s t : List ℕ} {cycles : ℕ} → LeastAfresh s t cycles → (outcome_of s).number ≡ 0 → cycles ≤ waiting (commands_of s)
afresh-saves {s} is passes = is.least s (record { kept = refl; free = passes-free s passes })

-- it is its own: a second time changes nothing
pub afresh-again : {s t : List ℕ} {cycles : ℕ} → LeastAfresh s t cycles → LeastAfresh t t cycles
unfolding without
afresh-again {s} {t} {cycles} is =
    let o = is.kept in
    record {
      kept = refl;
      whole = is.whole;
      passes = is.passes;
      waits = is.waits;
      least = λ u h. is.least u (record { kept = h.kept ∙ o; free = h.free });
      repair = subst (λ (l : List ℕ). LeastRepair l t cycles) (ap joined (sym o)) is.repair;
      first = (
        is.first.0,
        has_other o is.first.1,
        (λ u h e.
            let q = is.first.2 u (record { kept = h.kept ∙ o; free = h.free }) e in
            (q.0, has_other o q.1, q.2)),
      );
    }
  where
    has_other : {s t u p : List ℕ} → others (commands_of t) ≡ others (commands_of s) → HasPlan s u p → HasPlan t u p
    has_other {u = u} {p = p} o h =
        record {
          one_each = h.one_each ∙ ap length (sym o);
          makes = h.makes ∙ ap (applied p) (sym o);
          waits = h.waits;
        }
