-- The cycles that a record has waited (#105): the sum over the commands accepted, from a fresh record, and its bounds. Assumes nothing.
use Rattle.std.proofs.Common.{◌≡◌, refl, sym, ◌∙◌, ap, subst, List, [], ◌∷◌, ◌++◌, append_assoc, append-nil, ℕ, zero, suc, ◌+◌, ◌*◌, ◌-◌, ◌/◌, ◌%◌, ◌^◌, ◌≤◌, ◌<◌, arith, eqb-true, eqb, ltb, length, take, length-append, take_at}
use borrow.Author.Tests.{eqb-false}
use Rattle.rdp_command.specs.Decode.{answer}
use Rattle.rdp_words.specs.Kinds.{words_of}
use Rattle.rdp_words.specs.Lengths.{first_number, whole_words}
use Rattle.rdp_words.proofs.Tests.{by-test}
use Rattle.rdp_check.specs.Commands.{commands_of, words_in, joined}
use Rattle.rdp_check.specs.Check.{check_refusals, refusal_at}
use Rattle.rdp_hazards.specs.Syncs.{command_wait, waiting}
use Rattle.rdp_check.proofs.JoinLaws.{Alone, AllAlone, command-some, commands-joined, length-joined, words_append, joined-append, alone-append}
use Rattle.rdp_check.proofs.WaitLaws.{command-wait-most, waiting-append, waiting-most}
use Rattle.rdp_state.specs.Resume.{state_in, standing_after}
use Rattle.rdp_stream.specs.Portions.{Feeding, fresh, accepted, remembering, settled, completed, holding, after_byte, fed_bytes, closing_grounds, closed}
use Rattle.rdp_stream.proofs.PortionLaws.{grown-alone}
use Rattle.rdp_stream.proofs.FitLaws.{Fit, fit-byte}

-- a sum of 32 bits: it is at most the sum, and where that is small it is the sum
sum-most : (a b : ℕ) → (a + b) % 2 ^ 32 ≤ a + b
sum-most a b = omega arith

sum-small : (a b : ℕ) → a + b < 2 ^ 32 → (a + b) % 2 ^ 32 ≡ a + b
sum-small a b h = omega arith

-- ---- one byte more is held

module _ (f : Feeding) (k : Fit f) (b : ℕ) where
  abbrev held : List ℕ
  held = f.held ++ b ∷ []

  long : length held ≡ length f.held + 1
  long = length-append f.held (b ∷ [])

  pub same_bytes : f.taken + 1 - length held ≡ f.taken - length f.held
  same_bytes = omega (arith, long)

  module _ (there : whole_words held ≡ 0 → ⊥) where
    pub alone : Alone held
    alone = grown-alone f.held b k.cut there

    pub whole-bytes : f.taken + 1 ≡ f.taken - length f.held + 8 * words_of (first_number held)
    whole-bytes = omega (arith, long, alone, k.inside)

-- ---- the bound

-- so many cycles at most, by those at the start and the words accepted since
abbrev pub Within : ℕ → Feeding → Type 0
Within base f = f.standing.waited ≤ base + 50 * accepted f

within-settled :
    (base : ℕ) (g : ℕ) (f : Feeding) (k : Fit f) (b : ℕ) → (whole_words (f.held ++ b ∷ []) ≡ 0 → ⊥) → Within base f → Within base (settled g (holding b f))
unfolding standing_after
within-settled base zero f k b there w =
    let c = f.held ++ b ∷ [] in
    let some : 1 ≤ words_of (first_number c) = command-some c in
    let on : (f.taken - length f.held) / 8 + 1 ≤ (f.taken + 1 - 0) / 8 = omega (arith, whole-bytes f k b there) in
    omega (arith, sum-most f.standing.waited (command_wait (first_number c)), command-wait-most (first_number c))
within-settled base (suc g) f k b there w =
    let same : (f.taken + 1 - length (f.held ++ b ∷ []) - 0) / 8 ≡ accepted f = omega (arith, same_bytes f k b) in
    omega (arith, w)

pub within-byte : (base : ℕ) (f : Feeding) → Fit f → (b : ℕ) → Within base f → Within base (after_byte f b)
unfolding after_byte
within-byte base f k b w =
    let c = f.held ++ b ∷ [] in
    let same : (f.taken + 1 - length c) / 8 ≡ accepted f = ap (λ (n : ℕ). n / 8) (same_bytes f k b) in
    by-test (eqb f.number 0)
    (λ t.
    by-test (ltb f.taken 32768)
    (λ l.
    by-test (eqb (whole_words c) 0) (λ z. rw (t, l, z) (omega (arith, w, same)))
    (λ z.
    rw (t, l, z)
    (within-settled base (refusal_at check_refusals (state_in f.standing) c) f k b (eqb-false _ _ z) w)))
    (λ l. rw (t, l) w))
    (λ n. rw n w)

pub within-fed : (base : ℕ) (f : Feeding) → Fit f → Within base f → (bs : List ℕ) → Within base (fed_bytes f bs)
within-fed base f k w [] = w
within-fed base f k w (b ∷ bs) = within-fed base (after_byte f b) (fit-byte f k b) (within-byte base f k b w) bs

-- ---- the sum

-- the bytes that have come: the commands accepted, what they wait, and the bytes after them, which are held where no refusal is remembered
pub record Counts (f : Feeding) (xs : List ℕ) : Type 0 where
  pub done : List (List ℕ)
  pub after : List ℕ
  pub split : xs ≡ joined done ++ after
  pub whole : AllAlone done
  pub bytes : f.taken - length f.held ≡ 8 * words_in done
  pub waits : f.standing.waited ≡ waiting done
  pub own : f.number ≡ 0 → after ≡ f.held

module _ (f : Feeding) (k : Fit f) (xs : List ℕ) (n : Counts f xs) (b : ℕ) where
  abbrev command : List ℕ
  command = f.held ++ b ∷ []

  split-on : (after : List ℕ) → n.after ++ b ∷ [] ≡ after → xs ++ b ∷ [] ≡ joined n.done ++ after
  split-on after e =
      ap (λ (x : List ℕ). x ++ b ∷ []) n.split ∙
      append_assoc (joined n.done) n.after (b ∷ []) ∙
      ap (λ (x : List ℕ). joined n.done ++ x) e

  -- nothing more is accepted
  stays :
      (g : Feeding) → g.taken - length g.held ≡ f.taken - length f.held → g.standing.waited ≡ f.standing.waited →
      (g.number ≡ 0 → n.after ++ b ∷ [] ≡ g.held) → Counts g (xs ++ b ∷ [])
  stays g bytes waits own =
      record {
        done = n.done;
        after = n.after ++ b ∷ [];
        split = split-on (n.after ++ b ∷ []) refl;
        whole = n.whole;
        bytes = bytes ∙ n.bytes;
        waits = waits ∙ n.waits;
        own = own;
      }

  module _ (none : f.number ≡ 0) (there : whole_words command ≡ 0 → ⊥) where
    command-is : n.after ++ b ∷ [] ≡ command
    command-is = ap (λ (x : List ℕ). x ++ b ∷ []) (n.own none)

    -- the commands up to there wait less than a number of 32 bits holds
    small : waiting n.done + command_wait (first_number command) < 2 ^ 32
    small =
        let most : 8 * words_in n.done ≤ 32768 = omega (arith, n.bytes, k.most) in
        omega (arith, waiting-most n.done, command-wait-most (first_number command))

    counts-settled : (g : ℕ) → Counts (settled g (holding b f)) (xs ++ b ∷ [])
    unfolding standing_after waiting
    counts-settled zero =
        let one : List (List ℕ) = command ∷ [] in
        record {
          done = n.done ++ one;
          after = [];
          split =
              split-on command command-is ∙
              ap (λ (x : List ℕ). joined n.done ++ x) (sym (append-nil command)) ∙
              sym (joined-append n.done one) ∙
              sym (append-nil (joined (n.done ++ one)));
          whole = alone-append n.done one n.whole (alone f k b there, tt);
          bytes = omega (arith, whole-bytes f k b there, n.bytes, words_append n.done one);
          waits =
              ap (λ (w : ℕ). (w + command_wait (first_number command)) % 2 ^ 32) n.waits ∙
              sum-small (waiting n.done) (command_wait (first_number command)) small ∙
              (omega (arith, waiting-append n.done one));
          own = λ z. refl;
        }
    counts-settled (suc g) = stays (settled (suc g) (holding b f)) (omega (arith, same_bytes f k b)) refl (λ z. absurd (omega arith))

  counts-completed : f.number ≡ 0 → Counts (completed (holding b f)) (xs ++ b ∷ [])
  counts-completed none =
      by-test (eqb (whole_words command) 0)
      (λ z. rw z (stays (holding b f) (same_bytes f k b) refl (λ _. ap (λ (x : List ℕ). x ++ b ∷ []) (n.own none))))
      (λ z. rw z (counts-settled none (eqb-false _ _ z) (refusal_at check_refusals (state_in f.standing) command)))

  pub counts-byte : Counts (after_byte f b) (xs ++ b ∷ [])
  unfolding after_byte
  counts-byte =
      by-test (eqb f.number 0)
      (λ t.
      by-test (ltb f.taken 32768) (λ l. rw (t, l) (counts-completed (eqb-true _ _ t)))
      (λ l. rw (t, l) (stays (remembering (answer 1 4096) f) refl refl (λ z. absurd (omega arith)))))
      (λ m. rw m (stays f refl refl (λ z. absurd (eqb-false _ _ m z))))

pub counts-fed : (f : Feeding) → Fit f → (xs : List ℕ) → Counts f xs → (bs : List ℕ) → Counts (fed_bytes f bs) (xs ++ bs)
counts-fed f k xs n [] = subst (Counts f) (sym (append-nil xs)) n
counts-fed f k xs n (b ∷ bs) =
    subst (Counts (fed_bytes (after_byte f b) bs)) (append_assoc xs (b ∷ []) bs)
    (counts-fed (after_byte f b) (fit-byte f k b) (xs ++ b ∷ []) (counts-byte f k xs n b) bs)

-- a refusal that is remembered, or the one there was
pub counts-remembering : (f : Feeding) (xs : List ℕ) → Counts f xs → (number place : ℕ) → (number ≡ 0 → f.number ≡ 0) → Counts (remembering (answer number place) f) xs
counts-remembering f xs n number place still =
    record {
      done = n.done;
      after = n.after;
      split = n.split;
      whole = n.whole;
      bytes = n.bytes;
      waits = n.waits;
      own = λ z. n.own (still z);
    }

pub counts-closed : (f : Feeding) (xs : List ℕ) → Counts f xs → Counts (closed f) xs
unfolding closing_grounds
counts-closed f xs n =
    by-test (eqb f.number 0)
    (λ z.
    let none : f.number ≡ 0 = eqb-true _ _ z in
    by-test (eqb (f.taken % 8) 0)
    (λ e.
    by-test (eqb (length f.held) 0) (λ h. rw (z, e, h) (counts-remembering f xs n f.number f.place (λ q. q)))
    (λ h. rw (z, e, h) (counts-remembering f xs n 3 (accepted f) (λ _. none))))
    (λ e. rw (z, e) (counts-remembering f xs n 2 (f.taken / 8) (λ _. none))))
    (λ z. rw z (counts-remembering f xs n f.number f.place (λ q. q)))

pub counts-fresh : Counts fresh []
unfolding waiting
counts-fresh = record { done = []; after = []; split = refl; whole = tt; bytes = refl; waits = refl; own = λ _. refl }

-- the sum is over the commands of the bytes taken and not held
pub counts-sum : (f : Feeding) (xs : List ℕ) → Counts f xs → f.standing.waited ≡ waiting (commands_of (take (f.taken - length f.held) xs))
counts-sum f xs n =
    let front : take (f.taken - length f.held) xs ≡ joined n.done =
    ap (take (f.taken - length f.held)) n.split ∙
    take_at (joined n.done) n.after (f.taken - length f.held) (length-joined n.done n.whole ∙ sym n.bytes) in
    n.waits ∙ ap waiting (sym (commands-joined n.done n.whole) ∙ ap commands_of (sym front))
