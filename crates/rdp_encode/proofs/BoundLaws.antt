-- Which answers encoding gives, and how large their parts are. Assumes nothing.
use Rattle.std.proofs.Common.{ℕ, ◌≤◌, Bool, true, false, cond, ◌&&◌, List, ◌≡◌, ap, ◌∙◌, arith, ltb, length}
use Rattle.std.proofs.Math.ListN.{length-map}
use Rattle.rdp_words.specs.Words.{word_at}
use Rattle.rdp_words.specs.Kinds.{words_of}
use Rattle.rdp_command.specs.Layout.{layout}
use Rattle.rdp_command.specs.Fields.{field_at}
use Rattle.rdp_encode.specs.Placed.{number_of_value}
use Rattle.rdp_command.specs.Commands.{number_of, values_of}
use Rattle.rdp_words.specs.Lengths.{first_number, whole_words}
use Rattle.rdp_command.specs.Decode.{own_words, command_in, decode_of, answer}
use Rattle.rdp_encode.specs.Encode.{numbers_of, number_in_row, encodable, has_room, answer_with, encode_answer}
use Rattle.rdp_encode.specs.Numbers.{numbers_fit, flags_agree, fields_answer, from_numbers}
use Rattle.rdp_words.specs.Grounds.{Answer}
use Rattle.rdp_command.specs.declared.Command.{Command}
use Rattle.rdp_command.specs.Decode.{Whole, Refused}
use Rattle.rdp_words.proofs.Tests.{by-test}
use Rattle.rdp_words.proofs.KindLaws.{words-most}
use Rattle.rdp_command.proofs.AnswerLaws.{refusal-of, decoded-is}
use Rattle.rdp_words.proofs.PlaceLaws.{number_small}
use Rattle.rdp_encode.proofs.Spreading.{not-encodable}
use Rattle.rdp_command.proofs.GroupLaws.{values-read}
use Rattle.rdp_encode.proofs.NumberLaws.{standing}

-- a decoded command has as many fields as its number has bit lines
pub fields-decoded : (bs : List ℕ) {c : Command} → decode_of bs ≡ Whole c → length (numbers_of c) ≡ length (layout (first_number bs))
fields-decoded bs e =
    let n = first_number bs in
    let ws = own_words bs (whole_words bs) in
    ap (λ (x : Command). length (numbers_of x)) (decoded-is bs e) ∙
    length-map (values_of (command_in n ws)) number_of_value ∙
    ap length (values-read n (number_small (word_at bs 0)) ws) ∙
    length-map (layout n) (field_at ws)

-- ---- the fields of a command

-- 0 or 14, at their count
pub fields-most : (c : Command) (out : List ℕ) → (fields_answer c out).number ≤ 14
unfolding fields_answer
fields-most c out = by-test (ltb (length out) (length (numbers_of c))) (λ t. rw t (omega arith)) (λ f. rw f (omega arith))

pub fields-place : (c : Command) (out : List ℕ) → (fields_answer c out).place ≡ length (numbers_of c)
unfolding fields_answer
fields-place c out = by-test (ltb (length out) (length (numbers_of c))) (λ t. rw t) (λ f. rw f)

-- ---- encoding

-- a number and fields are refused by 15 at 0
pub from-refused : (n : ℕ) (ns : List ℕ) {a : Answer} → from_numbers n ns ≡ Refused a → a ≡ answer 15 0
unfolding from_numbers
from-refused n ns e = refusal-of (ltb n 64 && (numbers_fit n ns && flags_agree n ns)) _ (answer 15 0) e

-- 0, 14 or 15
verdict-most : (ok room : Bool) (words : ℕ) → (cond ok (cond room (answer 0 words) (answer 14 words)) (answer 15 0)).number ≤ 15
verdict-most true true words = omega arith
verdict-most true false words = omega arith
verdict-most false room words = omega arith

pub encode-most : (c : Command) (suffix out : List ℕ) → (encode_answer c suffix out).number ≤ 15
unfolding answer_with
encode-most c suffix out = verdict-most (encodable c suffix) (has_room (number_of c) out) (words_of (number_of c))

-- at most 22 words
verdict-words : (ok room : Bool) (words : ℕ) → words ≤ 22 → (cond ok (cond room (answer 0 words) (answer 14 words)) (answer 15 0)).place ≤ 22
verdict-words true true words h = h
verdict-words true false words h = h
verdict-words false room words h = omega arith

pub encode-words : (c : Command) (suffix out : List ℕ) → (encode_answer c suffix out).place ≤ 22
unfolding answer_with
encode-words c suffix out =
    by-test (number_in_row c)
    (λ t. verdict-words (encodable c suffix) (has_room (number_of c) out) (words_of (number_of c)) (words-most (number_of c) (standing c t).1))
    (λ f. rw (not-encodable c suffix f) (omega arith))
