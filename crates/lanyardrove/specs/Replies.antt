-- What the C functions answer: a number, a third number and a place, as one 64-bit number.
use Rattle.std.specs.Prelude.{ℕ, ◌+◌, ◌*◌, ◌/◌, ◌%◌, ◌^◌, ◌<◌, min, cond, List, ◌≡◌, eqb, length, take}
use mir.Val.{bool_byte}
use Rattle.rdp_words.specs.Lengths.{first_number}
use Rattle.rdp_command.specs.Decode.{decode_of}
use Rattle.rdp_encode.specs.Encode.{encode_answer, encode_out}
use Rattle.rdp_encode.specs.Numbers.{fields_answer, fields_out, from_numbers}
use Rattle.rdp_words.specs.Grounds.{Answer}
use Rattle.rdp_command.specs.Decode.{Decoded}
use Rattle.rdp_command.specs.Decode.{Whole, Refused}
use Rattle.rdp_hazards.specs.Hazards.{transition_of}
use Rattle.rdp_check.specs.Check.{check_of}
use Rattle.rdp_repair.specs.Repair.{RepairIs}
use Rattle.rdp_repair.specs.Afresh.{AfreshIs}
use Rattle.rdp_repair.specs.Repair.{Repaired}
use Rattle.rdp_index.specs.Index.{build_answer, ask_of, replace_answer, ReplaceIs}
use Rattle.rdp_index.specs.Index.{Asked}
use Rattle.rdp_draw.specs.Draw.{draw_answer}
use Rattle.rdp_view.specs.View.{Framebuffer, view_answer}
use Rattle.rdp_stream.specs.Records.{fed_of, closed_of}
use Rattle.rdp_stream.specs.declared.Stream.{Stream}
use Rattle.rdp_stream.specs.Records.{Fed}
use Rattle.lanyardrove.specs.declared.Packed.{Packed}
use Rattle.f3dex2.specs.Translate.{translate_answer, translate_out}
use Rattle.rdp_compare.specs.Entries.{compare_answer}
use Rattle.rdp_compare.specs.Part.{rest_start}
use Rattle.f3dex2.specs.Translate.{Translated}

-- the number of the refusal, 0 for acceptance; a third number; and the place
pub record Reply : Type 0 where
  pub number : ℕ
  pub third : ℕ
  pub place : ℕ

abbrev pub reply : ℕ → ℕ → ℕ → Reply
reply number third place = record { number = number; third = third; place = place }

-- as one number: the number in bits 63:56, the third number in bits 55:32, the place in bits 31:0
unfoldable pub packed : Reply → ℕ
packed r = r.number * 2 ^ 56 + r.third * 2 ^ 32 + r.place

-- the parts of such a number
abbrev pub unpacked : ℕ → Reply
unpacked w = reply (w / 2 ^ 56) (w / 2 ^ 32 % 2 ^ 24) (w % 2 ^ 32)

-- the most that a third number can be; where it stands for a count of words, it stands for that and more
abbrev pub most_third : ℕ
most_third = 0xFFFFFF

-- an answer with a third number, and one that has none
abbrev pub told : ℕ → Answer → Reply
told third a = reply a.number third a.place

abbrev pub plain : Answer → Reply
plain a = told 0 a

-- the check: the third number is the cause
abbrev pub check_reply : List ℕ → Reply
check_reply list = reply (check_of list).number (min (check_of list).cause most_third) (check_of list).place

-- a call on a record: the third number is the cycles that the record has waited after it, 0 at 28 (#105)
abbrev pub told_reply : Fed → Reply
told_reply x = reply x.answer.number (cond (eqb x.answer.number 28) 0 x.after.waited) x.answer.place

-- a portion that a record takes, and the closing of its list
abbrev pub feed_reply : Stream → List ℕ → Reply
feed_reply r portion = told_reply (fed_of r portion)

abbrev pub close_reply : Stream → Reply
close_reply r = told_reply (closed_of r)

-- with the record after it
abbrev pub fed_packed : Stream → List ℕ → Packed
fed_packed r portion = record { after = (fed_of r portion).after; answer = packed (feed_reply r portion) }

abbrev pub closed_packed : Stream → Packed
closed_packed r = record { after = (closed_of r).after; answer = packed (close_reply r) }

-- a step of the hazards, of which four bits count, by a number, of which six do: the third number is the sync that the command requires, and 4 more where it
-- is missing; the place is the hazards after it
abbrev pub step_reply : ℕ → ℕ → Reply
step_reply hazards number =
    let t = transition_of (hazards % 16) (number % 64) in
    reply 0 (t.required + cond t.missing 4 0) t.next

-- #111: building
abbrev pub build_reply : List ℕ → List ℕ → Reply
build_reply list entries = plain (build_answer list entries)

-- a question: the third number is the hazards and 16 times the number of commands read
abbrev pub asked_reply : Asked → Reply
asked_reply a = reply a.number (a.hazards + 16 * a.read) a.place

abbrev pub ask_reply : List ℕ → List ℕ → ℕ → Reply
ask_reply list entries place = asked_reply (ask_of list entries place)

-- a replacement, and a number that is its answer, where it leaves the list and the entries so
abbrev pub replace_reply : List ℕ → List ℕ → ℕ → List ℕ → Reply
replace_reply list entries place new = plain (replace_answer list entries place new)

abbrev pub ReplaceReplies : List ℕ → List ℕ → ℕ → List ℕ → ℕ → List ℕ → List ℕ → Type 0
ReplaceReplies list entries place new w list' entries' = (r : Answer) × (w ≡ packed (plain r)) × ReplaceIs list entries place new r list' entries'

-- the repair: the third number is the cycles
abbrev pub repair_reply : Repaired → Reply
repair_reply r = reply r.number r.cycles r.place

-- a number that is the repair's answer, where it leaves its buffers so
abbrev pub RepairReplies : List ℕ → List ℕ → List ℕ → ℕ → List ℕ → List ℕ → Type 0
RepairReplies list work out w work' out' = (r : Repaired) × (w ≡ packed (repair_reply r)) × RepairIs list work out r work' out'

-- the second repair's (#109), likewise; its cycles are all waiting
abbrev pub AfreshReplies : List ℕ → List ℕ → List ℕ → ℕ → List ℕ → List ℕ → Type 0
AfreshReplies list work out w work' out' = (r : Repaired) × (w ≡ packed (repair_reply r)) × AfreshIs list work out r work' out'

-- drawing on memory of `len` bytes that starts at address `start`, with texture memory of `size` bytes
abbrev pub draw_reply : List ℕ → ℕ → ℕ → ℕ → Reply
draw_reply list start len size = plain (draw_answer list start len size)

-- an image of memory of `len` bytes that starts at address `start`, as RGBA rows in an output of `room` bytes (#113)
abbrev pub view_reply : ℕ → ℕ → Framebuffer → ℕ → Reply
view_reply start len i room = plain (view_answer start len i room)

-- two lists compared (#110): no third number
abbrev pub compare_reply : List ℕ → List ℕ → ℕ → Reply
compare_reply first second room = plain (compare_answer first second room)

-- the most that a place can be; where it stands for a byte of a list, it stands for that and more
abbrev pub most_place : ℕ
most_place = 0xFFFFFFFF

-- where the rest of the longer list begins: the comparison's number; the third number is the list, 0 the first and 1 the second; the place is the byte
abbrev pub rest_reply : List ℕ → List ℕ → ℕ → Reply
rest_reply first second room = let r = rest_start first second room in reply r.number (bool_byte r.second) (min r.start most_place)

-- of a memory 4,294,967,288 bytes count as lent, so that every offset fits 32 bits: what lies beyond counts as not lent
abbrev pub most_lent : ℕ
most_lent = 0xFFFFFFF8

abbrev pub lent_part : List ℕ → List ℕ
lent_part memory = take (min (length memory) most_lent) memory

-- a display list, written as an RDP list (#108): the third number is the display list commands read
abbrev pub translated_reply : Translated → Reply
translated_reply t = reply t.number t.read t.place

abbrev pub translate_reply : List ℕ → ℕ → ℕ → Reply
translate_reply memory start room = translated_reply (translate_answer (lent_part memory) start room)

-- the output after it; at a refusal, as it was
abbrev pub translate_bytes : List ℕ → ℕ → List ℕ → List ℕ
translate_bytes memory start out = translate_out (lent_part memory) start out

-- a decoded command of number n: the third number is n where its fields are written; the place is their count
abbrev pub decoded_reply : ℕ → List ℕ → Decoded → Reply
decoded_reply n fields (Whole c) = let a = fields_answer c fields in reply a.number (cond (eqb a.number 0) n 0) a.place
decoded_reply n fields (Refused a) = plain a

abbrev pub decode_reply : List ℕ → List ℕ → Reply
decode_reply list fields = decoded_reply (first_number list) fields (decode_of list)

-- the fields of a decoded command at the front; at a refusal, as it was
abbrev pub decoded_fields : List ℕ → Decoded → List ℕ
decoded_fields fields (Whole c) = fields_out c fields
decoded_fields fields (Refused a) = fields

abbrev pub decode_fields : List ℕ → List ℕ → List ℕ
decode_fields list fields = decoded_fields fields (decode_of list)

-- a command that was made of a number and fields, encoded; or the refusal to make it
abbrev pub made_reply : List ℕ → List ℕ → Decoded → Reply
made_reply suffix out (Whole c) = plain (encode_answer c suffix out)
made_reply suffix out (Refused a) = plain a

abbrev pub encode_reply : ℕ → List ℕ → List ℕ → List ℕ → Reply
encode_reply number fields suffix out = made_reply suffix out (from_numbers number fields)

-- the output after it; at a refusal, as it was
abbrev pub made_bytes : List ℕ → List ℕ → Decoded → List ℕ
made_bytes suffix out (Whole c) = encode_out c suffix out
made_bytes suffix out (Refused a) = out

abbrev pub encode_bytes : ℕ → List ℕ → List ℕ → List ℕ → List ℕ
encode_bytes number fields suffix out = made_bytes suffix out (from_numbers number fields)

-- the answers that there are; of a record, its held bytes are 176 and its place is a 32-bit number, as is a place that is asked
pub data Occurs : Reply → Type 0 where
  of_check : (list : List ℕ) → Occurs (check_reply list)
  of_feed : (r : Stream) → length r.held ≡ 176 → r.place < 2 ^ 32 → (portion : List ℕ) → Occurs (feed_reply r portion)
  of_close : (r : Stream) → length r.held ≡ 176 → r.place < 2 ^ 32 → Occurs (close_reply r)
  of_step : (hazards number : ℕ) → Occurs (step_reply hazards number)
  of_build : (list entries : List ℕ) → Occurs (build_reply list entries)
  of_ask : (list entries : List ℕ) (place : ℕ) → place < 2 ^ 32 → Occurs (ask_reply list entries place)
  of_replace : (list entries : List ℕ) (place : ℕ) (new : List ℕ) → place < 2 ^ 32 → Occurs (replace_reply list entries place new)
  of_repair : {list work out work' out' : List ℕ} {r : Repaired} → RepairIs list work out r work' out' → Occurs (repair_reply r)
  of_afresh : {list work out work' out' : List ℕ} {r : Repaired} → AfreshIs list work out r work' out' → Occurs (repair_reply r)
  of_draw : (list : List ℕ) (start len size : ℕ) → Occurs (draw_reply list start len size)
  of_view : (start len : ℕ) (i : Framebuffer) (room : ℕ) → Occurs (view_reply start len i room)
  of_compare : (first second : List ℕ) (room : ℕ) → Occurs (compare_reply first second room)
  of_rest : (first second : List ℕ) (room : ℕ) → Occurs (rest_reply first second room)
  of_translate : (memory : List ℕ) (start room : ℕ) → start < 2 ^ 32 → Occurs (translate_reply memory start room)
  of_decode : (list fields : List ℕ) → Occurs (decode_reply list fields)
  of_encode : (number : ℕ) (fields suffix out : List ℕ) → Occurs (encode_reply number fields suffix out)
