-- What is known of a list after some bytes stays such that a record can stand for it. Assumes nothing.
use Rattle.std.proofs.Common.{◌≡◌, refl, List, [], ◌∷◌, ◌++◌, ℕ, zero, suc, ◌+◌, ◌*◌, ◌-◌, ◌/◌, ◌%◌, ◌^◌, ◌≤◌, ◌<◌, arith, eqb-true, ltb-true, T, eqb, ltb, lit≤, length, length-append}
use borrow.Author.Tests.{eqb-false}
use Rattle.rdp_command.specs.Decode.{answer}
use Rattle.rdp_words.specs.Kinds.{among, words_of}
use Rattle.rdp_words.specs.Lengths.{first_number, whole_words}
use Rattle.rdp_words.proofs.Tests.{by-test}
use Rattle.rdp_check.specs.Check.{State, check_refusals, refusal_at}
use Rattle.rdp_check.proofs.OrderLaws.{first_gives}
use Rattle.rdp_check.proofs.BoundLaws.{check-known}
use Rattle.rdp_state.specs.Resume.{state_in}
use Rattle.rdp_stream.specs.Portions.{Feeding, fresh, accepted, remembering, settled, completed, holding, after_byte, fed_bytes, closing_grounds, closed}
use Rattle.rdp_stream.specs.Records.{remembered}
use Rattle.rdp_stream.proofs.PortionLaws.{none-whole, grown-alone}

pub record Fit (f : Feeding) : Type 0 where
  pub cut : whole_words f.held ≡ 0
  pub most : f.taken ≤ 32768
  pub inside : length f.held ≤ f.taken
  pub whole : (f.taken - length f.held) % 8 ≡ 0
  pub known : T (among f.number remembered)
  pub near : f.place < 2 ^ 32

refusal-known : (s : State) (c : List ℕ) → T (among (refusal_at check_refusals s c) remembered)
refusal-known s c = first_gives (λ n. among n remembered) (check_refusals s c) 0 (check-known s c) tt

fit-settled :
    (g : ℕ) (f : Feeding) → T (among g remembered) → f.taken ≤ 32768 → length f.held ≤ f.taken → (f.taken - length f.held) % 8 ≡ 0 → length f.held % 8 ≡ 0 → T (among f.number remembered) → f.place < 2 ^ 32 →
    Fit (settled g f)
fit-settled zero f k most inside whole even known near =
    record { cut = none-whole; most = most; inside = omega arith; whole = omega arith; known = known; near = near }
fit-settled (suc g) f k most inside whole even known near =
    record { cut = none-whole; most = omega arith; inside = omega arith; whole = omega arith; known = k; near = omega arith }

module _ (f : Feeding) (k : Fit f) (b : ℕ) where
  abbrev held : List ℕ
  held = f.held ++ b ∷ []

  long : length held ≡ length f.held + 1
  long = length-append f.held (b ∷ [])

  even : (f.taken + 1 - length held) % 8 ≡ 0
  even = let e : f.taken + 1 - length held ≡ f.taken - length f.held = omega (arith, long) in rw e k.whole

  fit-completed : f.taken < 32768 → Fit (completed (holding b f))
  fit-completed room =
      by-test (eqb (whole_words held) 0)
      (λ t.
      rw t
      (record {
        cut = eqb-true _ _ t;
        most = omega (arith, room);
        inside = omega (arith, long, k.inside);
        whole = even;
        known = k.known;
        near = k.near;
      }))
      (λ n.
      let alone : length held ≡ 8 * words_of (first_number held) = grown-alone f.held b k.cut (eqb-false _ _ n) in
      rw n
      (fit-settled (refusal_at check_refusals (state_in f.standing) held) (holding b f) (refusal-known (state_in f.standing) held) (omega (arith, room)) (omega (arith, long, k.inside)) even
      (omega (arith, alone)) k.known k.near))

  pub fit-byte : Fit (after_byte f b)
  unfolding after_byte
  fit-byte =
      by-test (eqb f.number 0)
      (λ t.
      by-test (ltb f.taken 32768) (λ l. rw (t, l) (fit-completed (ltb-true _ _ l)))
      (λ l. rw (t, l) (record { cut = k.cut; most = k.most; inside = k.inside; whole = k.whole; known = tt; near = omega arith })))
      (λ n. rw n k)

pub fit-fed : (f : Feeding) → Fit f → (bs : List ℕ) → Fit (fed_bytes f bs)
fit-fed f k [] = k
fit-fed f k (b ∷ bs) = fit-fed (after_byte f b) (fit-byte f k b) bs

fit-remembering : (f : Feeding) → Fit f → (number place : ℕ) → T (among number remembered) → place < 2 ^ 32 → Fit (remembering (answer number place) f)
fit-remembering f k number place h l = record { cut = k.cut; most = k.most; inside = k.inside; whole = k.whole; known = h; near = l }

pub fit-closed : (f : Feeding) → Fit f → Fit (closed f)
unfolding closing_grounds
fit-closed f k =
    by-test (eqb f.number 0)
    (λ z.
    by-test (eqb (f.taken % 8) 0)
    (λ e.
    by-test (eqb (length f.held) 0) (λ n. rw (z, e, n) k) (λ n. rw (z, e, n) (fit-remembering f k 3 (accepted f) tt (omega (arith, k.most)))))
    (λ e. rw (z, e) (fit-remembering f k 2 (f.taken / 8) tt (omega (arith, k.most)))))
    (λ z. rw z k)

pub fit-fresh : Fit fresh
fit-fresh = record { cut = none-whole; most = lit≤ tt; inside = lit≤ tt; whole = refl; known = tt; near = omega arith }
