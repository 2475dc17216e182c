-- `rdp_stream::arrival::Arrival::feed_whole` meets its contract: what the check answers of the part is what its bytes do. Assumes nothing.
use Rattle.std.proofs.Common.{ℕ, ◌+◌, ◌*◌, ◌%◌, ◌≤◌, List, length, ◌≡◌, rules, refl, sym, ◌∙◌, ap, arith, length-drop}
use Rattle.std.proofs.lemmas.List.{take_rest}
use Rattle.rdp_words.specs.Grounds.{number_if}
use Rattle.rdp_words.proofs.GroundLaws.{refused-number}
use Rattle.rdp_stream.specs.Portions.{Feeding, fed_bytes}
use Rattle.rdp_stream.specs.Steps.{holding_all}
use Rattle.rdp_stream.specs.declared.arrival.Arrival.{Arrival}
use Rattle.rdp_stream.proofs.FeedLaws.{short-cut, short-fed, refused-room, refused-fed, held-inside, held-cut, held-fed}
use Rattle.rdp_stream.proofs.KnownLaws.{known-whole, told-ok, told-err}
use Rattle.rdp_stream.proofs.arrival.Arrival.feed_whole.Goals.{In-Ok, In-Err}
use Rattle.rdp_stream.proofs.arrival.Arrival.feed_whole.Goals as goal

even : (a : Arrival) → a.held_count ≡ 0 → a.taken % 8 ≡ 0
even a z = omega (arith, a.sound.whole)

pub hold-requires : goal.hold-requires
hold-requires c = (c.requires.0.1, (short-cut c.args.part.now c.if-part-lt8.true, c.requires.1))

pub returns-then-part-lt8 : goal.returns-then-part-lt8
returns-then-part-lt8 c =
    let a = c.args.self.now in
    let part = c.args.part.now in
    c.hold.ensures ∙
    ap (λ (f : Feeding). holding_all f part) (known-whole a c.requires.0.0 c.requires.0.1) ∙
    short-fed a.standing a.taken a.place part (even a c.requires.0.1) c.requires.1 c.if-part-lt8.true ∙
    ap (λ (f : Feeding). fed_bytes f part) (sym (known-whole a c.requires.0.0 c.requires.0.1))

-- the words of the commands that are accepted are inside the part
inside : (c : In-Ok) → 8 * c.in-Ok.words ≤ length c.args.part.now
inside c =
    let a = c.args.self.now in
    held-inside a.standing a.taken a.place c.args.part.now (even a c.requires.0.1) c.requires.1 _ (told-ok c.resume-resumed.result _ c.resume-resumed.ensures c.in-Ok.words c.in-Ok.is) refl

pub overflow_mul-self : goal.overflow_mul-self
overflow_mul-self c = record { fits = omega (arith, inside (goal.at.overflow_mul-self c).In-Ok, c.requires.1) }

pub overflow_add-self : goal.overflow_add-self
overflow_add-self c = record { fits = omega (arith, inside (goal.at.overflow_add-self c).In-Ok, c.requires.1) }

pub invariant_of-self : goal.invariant_of-self
invariant_of-self c =
    let k = c.args.self.now.sound in
    let within = inside (goal.at.invariant_of-self c).In-Ok in
    record {
      sound =
          record {
            few = k.few;
            long = k.long;
            past = k.past;
            cut = k.cut;
            inside = omega (arith, k.inside);
            whole = omega (arith, k.whole, c.requires.0.1);
            most = omega (arith, within, c.requires.1);
          };
    }

pub slice_bounds-hold-count : goal.slice_bounds-hold-count
slice_bounds-hold-count c = inside (goal.at.slice_bounds-hold-count c).In-Ok

pub slice_bounds-hold-start : goal.slice_bounds-hold-start
slice_bounds-hold-start c = let h = inside (goal.at.slice_bounds-hold-start c).In-Ok in search (rules, h)

pub hold-requires-in-Ok : goal.hold-requires-in-Ok
hold-requires-in-Ok c =
    let a = c.args.self.now in
    let part : List ℕ = c.args.part.now in
    let words : ℕ = c.in-Ok.words in
    let within = inside (goal.at.hold-requires-in-Ok c).In-Ok in
    let cut = held-cut a.standing a.taken a.place part (even a c.requires.0.1) c.requires.1 _ (told-ok c.resume-resumed.result _ c.resume-resumed.ensures words c.in-Ok.is) refl in
    rw (take_rest part (8 * words)) (c.requires.0.1, (cut, omega (arith, within, c.requires.1, length-drop (8 * words) part)))

pub returns-in-Ok : goal.returns-in-Ok
returns-in-Ok c =
    let a = c.args.self.now in
    let part : List ℕ = c.args.part.now in
    let words : ℕ = c.in-Ok.words in
    let after = c.resume-resumed.result.standing in
    let rest = take_rest part (8 * words) in
    c.hold-in-Ok.ensures ∙
    (λ i. record { standing = after; held = rest i; taken = a.taken + 8 * words + length (rest i); number = number_if (c.requires.0.0 i); place = a.place }) ∙
    held-fed a.standing a.taken a.place part (even a c.requires.0.1) c.requires.1 _ (told-ok c.resume-resumed.result _ c.resume-resumed.ensures words c.in-Ok.is) refl ∙
    ap (λ (f : Feeding). fed_bytes f part) (sym (known-whole a c.requires.0.0 c.requires.0.1))

pub refuse-requires : goal.refuse-requires
refuse-requires c =
    let a = c.args.self.now in
    refused-room a.standing a.taken a.place c.args.part.now (even a c.requires.0.1) c.requires.1 _ (told-err c.resume-resumed.result _ c.resume-resumed.ensures c.in-Err.refusal c.in-Err.is)

pub returns-in-Err : goal.returns-in-Err
returns-in-Err c =
    let a = c.args.self.now in
    let part : List ℕ = c.args.part.now in
    c.refuse.ensures ∙
    refused-fed a.standing a.taken a.place part (even a c.requires.0.1) c.requires.1 _ (told-err c.resume-resumed.result _ c.resume-resumed.ensures c.in-Err.refusal c.in-Err.is)
    (refused-number c.in-Err.refusal.ground) ∙
    ap (λ (f : Feeding). fed_bytes f part) (sym (known-whole a c.requires.0.0 c.requires.0.1))
