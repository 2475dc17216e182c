-- The answers that occur fit the bits that they are packed into, so that none loses a part. Assumes nothing.
use Prim.Native.Nat.{ℕ, ◌%◌, ◌^◌, ◌<◌, ◌≤◌, min}
use mathlib.Core.Bool.{Bool, true, false, cond, not}
use mathlib.Core.List.{List}
use mathlib.Core.Path.{◌≡◌, refl}
use native.Mathlib.Nat.{mod-lt}
use native.Mathlib.Omega.{arith}
use lib.Dec.{eqb, lit<}
use lib.ListN.{length, length-take}
use Rattle.rdp_words.specs.Words.{word_at}
use Rattle.rdp_words.specs.Lengths.{first_number}
use Rattle.rdp_command.specs.Decode.{decode_of}
use Rattle.rdp_encode.specs.Numbers.{fields_answer, from_numbers}
use Rattle.rdp_words.specs.Grounds.{Answer}
use Rattle.rdp_command.specs.Decode.{Decoded}
use Rattle.rdp_command.specs.Decode.{Whole, Refused}
use Rattle.rdp_words.proofs.PlaceLaws.{number_small}
use Rattle.rdp_command.proofs.BoundLaws.{decode-refused, lines-most}
use Rattle.rdp_encode.proofs.BoundLaws.{fields-decoded, fields-most, fields-place, from-refused, encode-most, encode-words}
use Rattle.rdp_hazards.specs.Hazards.{required_of}
use Rattle.rdp_hazards.proofs.HazardLaws.{next_small, required-most}
use Rattle.rdp_check.specs.Check.{check_refusals, check_of}
use Rattle.rdp_repair.specs.Repair.{Repaired}
use Rattle.rdp_index.specs.Index.{ask_of}
use Rattle.rdp_draw.specs.Draw.{draw_answer}
use Rattle.rdp_check.proofs.BoundLaws.{check_numbers, check-numbers, among_below, place-most}
use Rattle.rdp_repair.proofs.BoundLaws.{repair_numbers, Bounds, repair-bounds, afresh-bounds}
use Rattle.rdp_index.proofs.BoundLaws as index
use Rattle.rdp_draw.proofs.BoundLaws.{draw_numbers, draw-numbers, draw-place}
use Rattle.rdp_view.specs.View.{Framebuffer}
use Rattle.rdp_view.proofs.ViewLaws.{view-bounds}
use Rattle.rdp_stream.proofs.StreamLaws.{Near, fed-near, closed-near, fed-told, closed-told}
use Rattle.rdp_stream.specs.Records.{Fed, fed_of, closed_of}
use Rattle.lanyardrove.specs.Replies.{Reply, packed, unpacked, plain, step_reply, check_reply, repair_reply, draw_reply, view_reply, decoded_reply, decode_reply, made_reply, encode_reply, told_reply, Occurs, of_step, of_check, of_repair, of_afresh, of_draw, of_view, of_decode, of_encode, of_feed, of_close, lent_part, translate_reply, of_translate, ask_reply, of_build, of_ask, of_replace, compare_reply, of_compare, rest_reply, of_rest}
use Rattle.f3dex2.proofs.BoundLaws.{answer-bounds}
use Rattle.rdp_compare.specs.Part.{rest_start}
use Rattle.rdp_compare.proofs.BoundLaws.{compare-bounds, rest-number}
use Rattle.rdp_command.proofs.Signed.{bool_le}
use Rattle.lanyardrove.proofs.PackLaws.{Small, unpacked-packed, packed-fits}

step_small : (hazards number : ℕ) → Small (step_reply hazards number)
step_small hazards number =
    let m = hazards % 16 in
    let n = number % 64 in
    record {
      number = omega arith;
      third = omega (arith, required-most m n (mod-lt number (lit< tt)), cond-most (not (eqb (required_of m n) 0)));
      place = omega (arith, next_small m n);
    }
  where
    cond-most : (b : Bool) → cond b 4 0 ≤ 4
    cond-most true = omega arith
    cond-most false = omega arith

check-small : (list : List ℕ) → Small (check_reply list)
check-small list = record { number = among_below 256 (check_of list).number check_numbers tt (check-numbers list); third = omega arith; place = omega (arith, place-most 4096 check_refusals list) }

repair-small : (r : Repaired) → Bounds r → Small (repair_reply r)
repair-small r b = record { number = among_below 256 r.number repair_numbers tt b.number; third = omega (arith, b.cycles); place = omega (arith, b.place) }

-- an answer of #111 without a third number, at most a place that 32 bits hold
index-small : (a : Answer) (most : ℕ) → most < 2 ^ 32 → index.Bounds most a → Small (plain a)
index-small a most h b =
    record { number = among_below 256 a.number index.index_numbers tt b.number; third = omega arith; place = omega (arith, b.place) }

ask-small : (list entries : List ℕ) (place : ℕ) → place < 2 ^ 32 → Small (ask_reply list entries place)
ask-small list entries place h =
    let b = index.ask-bounds 0xFFFFFFFF (omega arith) list entries place (omega arith) in
    record {
      number = among_below 256 (ask_of list entries place).number index.index_numbers tt b.number;
      third = omega (arith, b.hazards, b.read);
      place = omega (arith, b.place);
    }

draw-small : (list : List ℕ) (start len size : ℕ) → Small (draw_reply list start len size)
draw-small list start len size =
    record {
      number = among_below 256 (draw_answer list start len size).number draw_numbers tt (draw-numbers list start len size);
      third = omega arith;
      place = omega (arith, draw-place list start len size);
    }

-- a refusal that is known
plain-small : (a : Answer) (n : ℕ) → n < 2 ^ 8 → a ≡ record { number = n; place = 0 } → Small (plain a)
plain-small a n h e = record { number = rw e h; third = omega arith; place = rw e (omega arith) }

-- a number below 64, or 0
cond-less : (b : Bool) (n : ℕ) → n < 64 → cond b n 0 < 2 ^ 24
cond-less true n h = omega arith
cond-less false n h = omega arith

decoded-small : (list fields : List ℕ) (d : Decoded) → decode_of list ≡ d → Small (decoded_reply (first_number list) fields d)
decoded-small list fields (Whole c) e =
    let small : first_number list < 64 = number_small (word_at list 0) in
    record {
      number = omega (arith, fields-most c fields);
      third = cond-less (eqb (fields_answer c fields).number 0) (first_number list) small;
      place = omega (arith, fields-place c fields, fields-decoded list e, lines-most (first_number list) small);
    }
decoded-small list fields (Refused a) e = plain-small a 3 (omega arith) (decode-refused list e)

decode-small : (list fields : List ℕ) → Small (decode_reply list fields)
decode-small list fields = decoded-small list fields (decode_of list) refl

made-small : (number : ℕ) (fields suffix out : List ℕ) (d : Decoded) → from_numbers number fields ≡ d → Small (made_reply suffix out d)
made-small number fields suffix out (Whole c) e =
    record { number = omega (arith, encode-most c suffix out); third = omega arith; place = omega (arith, encode-words c suffix out) }
made-small number fields suffix out (Refused a) e = plain-small a 15 (omega arith) (from-refused number fields e)

encode-small : (number : ℕ) (fields suffix out : List ℕ) → Small (encode_reply number fields suffix out)
encode-small number fields suffix out = made-small number fields suffix out (from_numbers number fields) refl

told-small : (x : Fed) → Near x.answer → (told_reply x).third ≤ 409600 → Small (told_reply x)
told-small x k most = record { number = omega (arith, k.number); third = omega (arith, most); place = k.place }

view-small : (start len : ℕ) (i : Framebuffer) (room : ℕ) → Small (view_reply start len i room)
view-small start len i room =
    let b = view-bounds start len i room in
    record { number = omega (arith, b.number); third = omega arith; place = omega (arith, b.place) }

lent-short : (memory : List ℕ) → length (lent_part memory) ≤ 0xFFFFFFF8
lent-short memory = omega (arith, length-take (min (length memory) 0xFFFFFFF8) memory)

translate-small : (memory : List ℕ) (start room : ℕ) → start < 2 ^ 32 → Small (translate_reply memory start room)
translate-small memory start room h =
    let b = answer-bounds (lent_part memory) start 0xFFFFFFFF room (omega arith) (omega (arith, lent-short memory)) (omega arith) in
    record { number = omega (arith, b.number); third = omega (arith, b.read); place = omega (arith, b.place) }

compare-small : (first second : List ℕ) (room : ℕ) → Small (compare_reply first second room)
compare-small first second room =
    let b = compare-bounds first second room in
    record { number = omega (arith, b.0); third = omega arith; place = omega (arith, b.1) }

rest-small : (first second : List ℕ) (room : ℕ) → Small (rest_reply first second room)
rest-small first second room =
    let b = compare-bounds first second room in
    record {
      number = omega (arith, b.0, rest-number first second room);
      third = omega (arith, bool_le (rest_start first second room).second);
      place = omega arith;
    }

-- every answer that occurs fits its bits
pub small : {r : Reply} → Occurs r → Small r
small (of_step hazards number) = step_small hazards number
small (of_check list) = check-small list
small (of_repair is) = repair-small _ (repair-bounds is)
small (of_afresh is) = repair-small _ (afresh-bounds is)
small (of_build list entries) = index-small _ 4096 (omega arith) (index.build-bounds list entries)
small (of_ask list entries place h) = ask-small list entries place h
small (of_replace list entries place new h) =
    index-small _ 0xFFFFFFFF (omega arith) (index.replace-bounds 0xFFFFFFFF (omega arith) list entries place (omega arith) new)
small (of_draw list start len size) = draw-small list start len size
small (of_view start len i room) = view-small start len i room
small (of_decode list fields) = decode-small list fields
small (of_encode number fields suffix out) = encode-small number fields suffix out
small (of_feed r long near portion) = told-small (fed_of r portion) (fed-near r long near portion) (fed-told r long near portion)
small (of_close r long near) = told-small (closed_of r) (closed-near r long near) (closed-told r long near)
small (of_translate memory start room h) = translate-small memory start room h
small (of_compare first second room) = compare-small first second room
small (of_rest first second room) = rest-small first second room

-- and so the parts that are read back are the answer's, and the packed number is one of 64 bits
pub replies-kept : {r : Reply} → Occurs r → (unpacked (packed r) ≡ r) × (packed r < 2 ^ 64)
replies-kept {r} o = (unpacked-packed r (small o), packed-fits r (small o))
