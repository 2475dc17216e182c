-- Every cutting, of the caller's record: it stays sound and stands for what its bytes say, and from a fresh one it ends in the check's answer. Assumes nothing.
use Rattle.std.proofs.Common.{◌≡◌, refl, sym, ◌∙◌, ap, subst, Bool, true, false, cond, List, [], ◌∷◌, ◌++◌, append_assoc, append-nil, ℕ, zero, suc, ◌-◌, ◌/◌, ◌%◌, ◌^◌, ◌≤◌, ◌<◌, arith, eqb, lit≤, length, take, replicate, length-append}
use Rattle.std.proofs.Math.ListN.{length-replicate}
use Rattle.std.proofs.Math.Seq.{take-append_seam, drop-append_seam}
use Rattle.rdp_words.proofs.Tests.{true_of, by-test}
use Rattle.rdp_check.specs.Commands.{commands_of, joined}
use Rattle.rdp_hazards.specs.Syncs.{waiting}
use Rattle.rdp_check.proofs.BoundLaws.{among_below}
use Rattle.rdp_state.specs.After.{list_state_of, ListState}
use Rattle.rdp_state.specs.RegisterWords.{registers_in}
use Rattle.rdp_stream.specs.declared.Stream.{Stream}
use Rattle.rdp_stream.specs.Records.{Kept, Fed, all_zero, remembered, is_damaged, feeding_of, kept_in, stream_of, answered, fed_of, closed_of, fresh_stream, WaitsFor, Call, portion, closing, called_stream, arrived_by, fed_stream}
use Rattle.rdp_words.specs.Grounds.{Answer}
use Rattle.rdp_stream.specs.Portions.{Feeding, fresh, fed_bytes, fed_portions, closed, answer_of}
use Rattle.rdp_stream.proofs.PortionLaws.{fed-portions, portions-end}
use Rattle.rdp_stream.proofs.FitLaws.{Fit, fit-fed, fit-closed, fit-fresh}
use Rattle.rdp_stream.proofs.WaitLaws.{Within, within-fed, Counts, counts-fed, counts-closed, counts-fresh, counts-sum}
use Rattle.rdp_stream.proofs.ArrivedLaws.{list-first}
use Rattle.rdp_stream.specs.Arrived.{FirstArrived}
use Rattle.rdp_stream.proofs.HeldLaws.{Sound, undamaged}
use Rattle.rdp_stream.proofs.FeedLaws.{cut_short, ended-back}
use Rattle.rdp_stream.proofs.RecordLaws.{fits, count-is, is_open, answered-is}

-- ---- a record that stands for it

all-zeros : (n : ℕ) → all_zero (replicate n 0) ≡ true
all-zeros zero = refl
all-zeros (suc n) = all-zeros n

module _ (e : Kept) (f : Feeding) (k : Fit f) (within : Within 0 f) where
  abbrev n : ℕ
  n = length f.held

  few : n ≤ 175
  few = cut_short f.held k.cut

  abbrev zeros : List ℕ
  zeros = replicate (176 - n) 0

  front : take n (f.held ++ zeros) ≡ f.held
  front = take-append_seam f.held zeros

  pub stream-long : length (stream_of e f).held ≡ 176
  unfolding stream_of
  stream-long = length-append f.held zeros ∙ (omega (arith, few, length-replicate {A = ℕ} (176 - n) 0))

  stream-fits : Sound (f.held ++ zeros) n f.taken f.number f.standing.waited
  stream-fits =
      record {
        few = few;
        clear = rw (drop-append_seam f.held zeros) (all-zeros (176 - n));
        cut = rw front k.cut;
        most = k.most;
        inside = k.inside;
        whole = k.whole;
        known = true_of _ k.known;
        bounded = omega (arith, within, k.most);
      }

  pub stream-sound : is_damaged (stream_of e f) ≡ false
  unfolding stream_of
  stream-sound = undamaged (f.held ++ zeros) n f.taken f.number f.standing.waited stream-fits

  pub stands-for : feeding_of (stream_of e f) ≡ f
  unfolding stream_of
  stands-for =
      λ i.
      record {
        standing = record { hazards = f.standing.hazards; ended = ended-back e.ended f.standing.ended i; words = f.standing.words; waited = f.standing.waited };
        held = front i;
        taken = f.taken;
        number = f.number;
        place = f.place;
      }

-- ---- what a sound record stands for, and the numbers that calls answer

pub fit-sound : (r : Stream) → is_damaged r ≡ false → length r.held ≡ 176 → r.place < 2 ^ 32 → Fit (feeding_of r)
fit-sound r sound long near =
    let k = is_open r sound long in
    let c = fits r sound long in
    let n = count-is r sound long in
    record { cut = k.cut; most = c.most; inside = rw n c.inside; whole = rw n c.whole; known = rw c.known tt; near = near }

-- an answer by its bounds
pub record Near (a : Answer) : Type 0 where
  pub number : a.number ≤ 28
  pub place : a.place < 2 ^ 32

near-place : (b : Bool) {x y : ℕ} → x < 2 ^ 32 → y < 2 ^ 32 → cond b x y < 2 ^ 32
near-place true h k = h
near-place false h k = k

answer-near : (f : Feeding) → Fit f → Near (answer_of f)
answer-near f k =
    let words : (f.taken - length f.held) / 8 < 2 ^ 32 = omega (arith, k.most) in
    record { number = omega (arith, among_below 20 f.number remembered tt k.known); place = near-place (eqb f.number 0) words k.near }

answered-near : (r : Stream) (f : Feeding) → (is_damaged r ≡ false → Fit f) → Near (answered r f).answer
unfolding answered
answered-near r f h = by-test (is_damaged r) (λ t. rw t (record { number = lit≤ tt; place = omega arith })) (λ e. rw e (answer-near f (h e)))

module _ (r : Stream) (long : length r.held ≡ 176) (near : r.place < 2 ^ 32) where
  pub fed-near : (bs : List ℕ) → Near (fed_of r bs).answer
  fed-near bs = answered-near r (fed_bytes (feeding_of r) bs) (λ t. fit-fed (feeding_of r) (fit-sound r t long near) bs)

  pub closed-near : Near (closed_of r).answer
  closed-near = answered-near r (closed (feeding_of r)) (λ t. fit-closed (feeding_of r) (fit-sound r t long near))

-- ---- call by call

-- what is known after several operations
abbrev called : Feeding → List Call → Feeding
called f [] = f
called f (portion bs ∷ cs) = called (fed_bytes f bs) cs
called f (closing ∷ cs) = called (closed f) cs

-- a record after calls is sound, and stands for what its bytes say
pub record Stands (r : Stream) (f : Feeding) : Type 0 where
  pub sound : is_damaged r ≡ false
  pub long : length r.held ≡ 176
  pub fit : Fit f
  pub within : Within 0 f
  pub same : feeding_of r ≡ f

stands-stream : (e : Kept) (f : Feeding) → Fit f → Within 0 f → Stands (stream_of e f) f
stands-stream e f k w =
    record { sound = stream-sound e f k w; long = stream-long e f k w; fit = k; within = w; same = stands-for e f k w }

pub stands-fed : (r : Stream) (f : Feeding) → Stands r f → (bs : List ℕ) → Stands (fed_of r bs).after (fed_bytes f bs)
stands-fed r f k bs =
    let e : (fed_of r bs).after ≡ stream_of (kept_in r) (fed_bytes f bs) =
    ap (λ (x : Fed). x.after) (answered-is r k.sound k.long (fed_bytes (feeding_of r) bs)) ∙
    ap (λ (x : Feeding). stream_of (kept_in r) (fed_bytes x bs)) k.same in
    rw e (stands-stream (kept_in r) (fed_bytes f bs) (fit-fed f k.fit bs) (within-fed 0 f k.fit k.within bs))

pub stands-closed : (r : Stream) (f : Feeding) → Stands r f → Stands (closed_of r).after (closed f)
stands-closed r f k =
    let e : (closed_of r).after ≡ stream_of (kept_in r) (closed f) =
    ap (λ (x : Fed). x.after) (answered-is r k.sound k.long (closed (feeding_of r))) ∙
    ap (λ (x : Feeding). stream_of (kept_in r) (closed x)) k.same in
    rw e (stands-stream (kept_in r) (closed f) (fit-closed f k.fit) k.within)

pub stands-called : (r : Stream) (f : Feeding) → Stands r f → (cs : List Call) → Stands (called_stream r cs) (called f cs)
stands-called r f k [] = k
stands-called r f k (portion bs ∷ cs) = stands-called (fed_of r bs).after (fed_bytes f bs) (stands-fed r f k bs) cs
stands-called r f k (closing ∷ cs) = stands-called (closed_of r).after (closed f) (stands-closed r f k) cs

abbrev none : Kept
none = record { ended = 0; spare = 0 }

fresh-is : stream_of none fresh ≡ fresh_stream
unfolding stream_of
fresh-is = refl

pub stands-fresh : Stands fresh_stream fresh
stands-fresh = subst (λ (r : Stream). Stands r fresh) fresh-is (stands-stream none fresh fit-fresh (lit≤ tt))

-- portions alone
stands-portions : (r : Stream) (f : Feeding) → Stands r f → (ps : List (List ℕ)) → Stands (fed_stream r ps) (fed_portions f ps)
stands-portions r f k [] = k
stands-portions r f k (p ∷ ps) = stands-portions (fed_of r p).after (fed_bytes f p) (stands-fed r f k p) ps

-- ---- the cycles waited

counts-called : (f : Feeding) → Fit f → (xs : List ℕ) → Counts f xs → (cs : List Call) → Counts (called f cs) (xs ++ arrived_by cs)
counts-called f k xs n [] = subst (Counts f) (sym (append-nil xs)) n
counts-called f k xs n (portion bs ∷ cs) =
    subst (Counts (called (fed_bytes f bs) cs)) (append_assoc xs bs (arrived_by cs))
    (counts-called (fed_bytes f bs) (fit-fed f k bs) (xs ++ bs) (counts-fed f k xs n bs) cs)
counts-called f k xs n (closing ∷ cs) = counts-called (closed f) (fit-closed f k) xs (counts-closed f xs n) cs

-- from a fresh record the total is, after each operation, the sum over the commands accepted so far
pub waited-called : (cs : List Call) → WaitsFor (called_stream fresh_stream cs) (arrived_by cs)
waited-called cs =
    let r = called_stream fresh_stream cs in
    let s = stands-called fresh_stream fresh stands-fresh cs in
    let n = counts-called fresh fit-fresh [] counts-fresh cs in
    let sum = counts-sum (feeding_of r) (arrived_by cs) (subst (λ (f : Feeding). Counts f (arrived_by cs)) (sym s.same) n) in
    sum ∙ ap (λ (k : ℕ). waiting (commands_of (take (r.taken - k) (arrived_by cs)))) (count-is r s.sound s.long)

-- and from any other that 28 does not refuse it is at most 409,600 after a call
module _ (r : Stream) (sound : is_damaged r ≡ false) (long : length r.held ≡ 176) (near : r.place < 2 ^ 32) where
  abbrev here : Feeding
  here = feeding_of r

  fit-here : Fit here
  fit-here = fit-sound r sound long near

  few_words : (f : Feeding) → Fit f → Within r.waited f → f.standing.waited ≤ 409600
  few_words f k w = omega (arith, w, k.most, (fits r sound long).bounded)

  pub fed-waited : (bs : List ℕ) → (fed_of r bs).after.waited ≤ 409600
  unfolding stream_of
  fed-waited bs =
      let w : Within r.waited here = omega arith in
      rw (answered-is r sound long (fed_bytes here bs))
      (few_words (fed_bytes here bs) (fit-fed here fit-here bs) (within-fed r.waited here fit-here w bs))

  pub closed-waited : (closed_of r).after.waited ≤ 409600
  unfolding stream_of
  closed-waited = rw (answered-is r sound long (closed here)) (omega (arith, (fits r sound long).bounded))

-- the cycles as a call tells them: none at 28
either-most : (b : Bool) (n : ℕ) → n ≤ 409600 → cond b 0 n ≤ 409600
either-most true n h = lit≤ tt
either-most false n h = h

told-most :
    (r : Stream) (f : Feeding) → (is_damaged r ≡ false → (answered r f).after.waited ≤ 409600) →
    cond (eqb (answered r f).answer.number 28) 0 (answered r f).after.waited ≤ 409600
unfolding answered
told-most r f h =
    by-test (is_damaged r) (λ t. rw t (lit≤ tt))
    (λ e. either-most (eqb (answered r f).answer.number 28) (answered r f).after.waited (h e))

module _ (r : Stream) (long : length r.held ≡ 176) (near : r.place < 2 ^ 32) where
  pub fed-told : (bs : List ℕ) → cond (eqb (fed_of r bs).answer.number 28) 0 (fed_of r bs).after.waited ≤ 409600
  fed-told bs = told-most r (fed_bytes (feeding_of r) bs) (λ e. fed-waited r e long near bs)

  pub closed-told : cond (eqb (closed_of r).answer.number 28) 0 (closed_of r).after.waited ≤ 409600
  closed-told = told-most r (closed (feeding_of r)) (λ e. closed-waited r e long near)

-- ---- a whole list

-- from a fresh record every cutting of a list of whole words and at most 32,768 bytes ends in the one-call check's number, place, state and marks
abbrev pub ends_in : Fed → ListState
ends_in x = record { number = x.answer.number; place = x.answer.place; hazards = x.after.hazards; registers = registers_in x.after.words }

pub streamed :
    (ps : List (List ℕ)) → length (joined ps) % 8 ≡ 0 → length (joined ps) ≤ 32768 →
    ends_in (closed_of (fed_stream fresh_stream ps)) ≡ list_state_of (joined ps)
unfolding stream_of
streamed ps words few =
    let r = fed_stream fresh_stream ps in
    let k = stands-portions fresh_stream fresh stands-fresh ps in
    let m = portions-end ps words few in
    ap ends_in (answered-is r k.sound k.long (closed (feeding_of r)) ∙ ap (λ (x : Feeding). record { after = stream_of (kept_in r) (closed x); answer = answer_of (closed x) }) k.same) ∙
    (λ i. record { number = m.number i; place = m.place i; hazards = (m.state i).hazards; registers = (m.state i).registers })

-- and every list, whatever its length, is answered by the first of its refusals
pub arrived :
    (ps : List (List ℕ)) →
    let a = (closed_of (fed_stream fresh_stream ps)).answer in
    FirstArrived (joined ps) a.number a.place
arrived ps =
    let r = fed_stream fresh_stream ps in
    let k = stands-portions fresh_stream fresh stands-fresh ps in
    let e : (closed_of r).answer ≡ answer_of (closed (fed_bytes fresh (joined ps))) =
    ap (λ (x : Fed). x.answer) (answered-is r k.sound k.long (closed (feeding_of r))) ∙
    ap (λ (x : Feeding). answer_of (closed x)) (k.same ∙ fed-portions fresh ps) in
    subst (λ (a : Answer). FirstArrived (joined ps) a.number a.place) (sym e) (list-first (joined ps))
