-- Encoding by the words of the first command: steps to the laws over answers. Assumes nothing.
use Rattle.std.proofs.Common.{ℕ, zero, suc, ◌+◌, ◌*◌, ◌/◌, ◌^◌, ◌≤◌, ◌<◌, Bool, true, false, cond, ◌&&◌, List, ◌++◌, map, append_assoc, ◌≡◌, refl, ap, sym, ◌∙◌, not-suc-le-zero, arith, lt-ltb, le-leb, eq-eqb, eqb-true, ltb-true, ltb-false, eqb, ltb, length, get_or, take, drop, length-append, length-take, length-drop, take_at, drop_at}
use borrow.Author.Tests.{eqb-false}
use Rattle.rdp_words.specs.Words.{word_of, word_at, number_in, bytes_of, overwrite}
use Rattle.rdp_words.specs.Kinds.{words_of}
use Rattle.rdp_command.specs.Layout.{layout}
use Rattle.rdp_command.specs.Fields.{Value, fields_of}
use Rattle.rdp_encode.specs.Placed.{number_of_value, all_fit}
use Rattle.rdp_command.specs.Commands.{command_of, number_of, values_of}
use Rattle.rdp_words.specs.Lengths.{first_number, whole_words, suffix_words, suffix_start, suffix_of}
use Rattle.rdp_command.specs.Decode.{own_words, command_in, decode_of, answer}
use Rattle.rdp_encode.specs.Encode.{packed_word, packed_bytes, base_words, numbers_of, number_in_row, encodable, bytes_with, encoded_bytes, fixed_bits, has_room, verdict_of, answer_with, out_with, encode_answer, encode_out}
use Rattle.rdp_encode.specs.Kept.{bytes_kept, word_kept}
use Rattle.rdp_command.specs.declared.Command.{Command}
use Rattle.rdp_command.specs.Decode.{Whole}
use Rattle.rdp_words.proofs.Tests.{by-test, and-true}
use Rattle.rdp_words.proofs.KindLaws.{words-pos}
use Rattle.rdp_encode.proofs.TableLaws.{layout-readable}
use Rattle.rdp_command.proofs.AnswerLaws.{whole}
use Rattle.rdp_words.proofs.OverwriteLaws.{length-overwrite}
use Rattle.rdp_encode.proofs.Bytes.{empty, packed-long}
use Rattle.rdp_words.proofs.WordLaws.{word_back, word-whole}
use Rattle.rdp_encode.proofs.LayoutLaws.{word_lt, words_back}
use Rattle.rdp_encode.proofs.BackLaws.{command-back}
use Rattle.rdp_command.proofs.GroupLaws.{values-read}
use Rattle.rdp_encode.proofs.NumberLaws.{standing, number-packed, number-in-row-read, fits_read, packed-read}
use Rattle.rdp_command.proofs.WholeLaws.{whole_of, number_small, number-whole, counted_words, list-long}

-- word k of the words of a command, whatever follows them
packed-at :
    (n : ℕ) (ns : List ℕ) (m k : ℕ) (more : List ℕ) → k < m → packed_word n ns k < 2 ^ 64 → word_of (drop (8 * k) (packed_bytes n ns m ++ more)) ≡ packed_word n ns k
unfolding packed_bytes
packed-at n ns zero k more h s = absurd (not-suc-le-zero h)
packed-at n ns (suc m) k more h s =
    ap (λ (bs : List ℕ). word_of (drop (8 * k) bs)) (append_assoc (packed_bytes n ns m) (bytes_of (packed_word n ns m)) more) ∙
    by-test (eqb k m)
    (λ t.
    let e = eqb-true k m t in
    let long : length (packed_bytes n ns m) ≡ 8 * k = omega (arith, packed-long n ns m) in
    ap word_of (drop_at (packed_bytes n ns m) (bytes_of (packed_word n ns m) ++ more) (8 * k) long) ∙
    ap (λ (j : ℕ). word_of (bytes_of (packed_word n ns j) ++ more)) (sym e) ∙
    word_back (packed_word n ns k) more s)
    (λ f.
    let g : k ≡ m → ⊥ = eqb-false k m f in
    let r : k < m = omega arith in
    packed-at n ns m k (bytes_of (packed_word n ns m) ++ more) r s)

-- ---- what an encodable command is

pub parts :
    (c : Command) (suffix : List ℕ) → encodable c suffix ≡ true →
    (number_in_row c ≡ true) × ((all_fit (layout (number_of c)) (values_of c) ≡ true) × (length suffix ≡ 8 * suffix_words (words_of (number_of c))))
unfolding encodable
parts c suffix e =
    let a = number_in_row c in
    let b = all_fit (layout (number_of c)) (values_of c) in
    let d = eqb (length suffix) (8 * suffix_words (words_of (number_of c))) in
    let p = and-true (a && b) d e in
    let q = and-true a b p.0 in
    (q.0, (q.1, eqb-true _ _ p.1))

-- the words that hold fields are those of the list, as many as the command has
own-word : (bs : List ℕ) (n i : ℕ) → i < 4 → i < n → get_or (own_words bs n) i 0 ≡ word_at bs i
own-word bs n zero s h = refl
own-word bs n (suc zero) s h = rw (lt-ltb _ _ h)
own-word bs n (suc (suc zero)) s h = rw (lt-ltb _ _ h)
own-word bs n (suc (suc (suc zero))) s h = rw (lt-ltb _ _ h)
own-word bs n (suc (suc (suc (suc i)))) s h = absurd (omega arith)

-- ---- decoding what was encoded

module _ (c : Command) (suffix out : List ℕ) (ok : encodable c suffix ≡ true) (room : words_of (number_of c) ≤ length out / 8) where
  abbrev n : ℕ
  n = number_of c

  abbrev ns : List ℕ
  ns = numbers_of c

  fitting : number_in_row c ≡ true
  fitting = (parts c suffix ok).0

  small : n < 64
  small = (standing c fitting).1

  abbrev more : List ℕ
  more = suffix ++ drop (length (encoded_bytes c suffix)) out

  abbrev result : List ℕ
  result = overwrite (encoded_bytes c suffix) out

  shape : result ≡ packed_bytes n ns (base_words n) ++ more
  unfolding overwrite bytes_with
  shape = append_assoc (packed_bytes n ns (base_words n)) suffix (drop (length (encoded_bytes c suffix)) out)

  bytes-long : length (encoded_bytes c suffix) ≡ 8 * words_of n
  unfolding bytes_with
  bytes-long =
      let l = packed-long n ns (base_words n) in
      let s = (parts c suffix ok).1.1 in
      length-append (packed_bytes n ns (base_words n)) suffix ∙ omega (arith, l, s)

  long : length result ≡ length out
  long = length-overwrite (encoded_bytes c suffix) out (omega (arith, bytes-long))

  word-of : (k : ℕ) → k < base_words n → word_at result k ≡ packed_word n ns k
  word-of k h =
      word-whole result k (omega (arith, long)) ∙
      ap (λ (bs : List ℕ). word_of (drop (8 * k) bs)) shape ∙
      packed-at n ns (base_words n) k more h (word_lt n small ns k (omega arith))

  first : first_number result ≡ n
  first = ap number_in (word-of 0 (omega (arith, words-pos n small))) ∙ number-packed c fitting

  counted : whole_words result ≡ words_of n
  counted = whole_of result n first (omega (arith, long))

  fields : fields_of (layout n) (own_words result (words_of n)) ≡ values_of c
  fields =
      words_back n (values_of c) (own_words result (words_of n)) small (layout-readable n small) (standing c fitting).0 (parts c suffix ok).1.0
      (λ i h. own-word result (words_of n) i (omega arith) (omega arith) ∙ word-of i h)

  pub decodes : decode_of result ≡ Whole c
  decodes =
      sym (whole result (λ z. omega (arith, words-pos n small, counted))
      (sym (command-back c fitting) ∙
      ap (command_of n) (sym fields) ∙
      (λ i. command_in (sym first i) (own_words result (sym counted i)))))

  pub suffix-back : suffix_of result ≡ suffix
  unfolding suffix_of suffix_start
  suffix-back =
      let s = (parts c suffix ok).1.1 in
      ap (λ (k : ℕ). take (8 * suffix_words k) (drop (cond (ltb 4 k) 32 0) result)) counted ∙
      by-test (ltb 4 (words_of n))
      (λ t.
      let h : 4 < words_of n = ltb-true 4 (words_of n) t in
      let base : length (packed_bytes n ns (base_words n)) ≡ 32 = omega (arith, packed-long n ns (base_words n)) in
      rw t
      (ap (λ (bs : List ℕ). take (8 * suffix_words (words_of n)) (drop 32 bs)) shape ∙
      ap (take (8 * suffix_words (words_of n))) (drop_at (packed_bytes n ns (base_words n)) more 32 base) ∙
      take_at suffix (drop (length (encoded_bytes c suffix)) out) (8 * suffix_words (words_of n)) s))
      (λ f.
      let h : words_of n ≤ 4 = ltb-false 4 (words_of n) f in
      let z : 8 * suffix_words (words_of n) ≡ 0 = omega arith in
      rw (f, z) (sym (empty suffix (s ∙ z))))

-- an answer of 0 says that the command can be encoded and that there is room
pub accepted : (c : Command) (suffix out : List ℕ) → (encode_answer c suffix out).number ≡ 0 → (encodable c suffix ≡ true) × (has_room (number_of c) out ≡ true)
unfolding answer_with
accepted c suffix out = by (encodable c suffix) (has_room (number_of c) out)
  where
    by : (a b : Bool) → (verdict_of a b (words_of (number_of c))).number ≡ 0 → (a ≡ true) × (b ≡ true)
    by true true e = (refl, refl)
    by true false e = absurd (omega arith)
    by false b e = absurd (omega arith)

pub output : (c : Command) (suffix out : List ℕ) → encodable c suffix ≡ true → has_room (number_of c) out ≡ true → encode_out c suffix out ≡ overwrite (encoded_bytes c suffix) out
unfolding out_with
output c suffix out e r = rw (e, r)

-- ---- encoding what was decoded

module _ (bs : List ℕ) (there : whole_words bs ≡ 0 → ⊥) where
  abbrev number : ℕ
  number = first_number bs

  abbrev words : List ℕ
  words = own_words bs (whole_words bs)

  abbrev command : Command
  command = command_in number words

  values : values_of command ≡ fields_of (layout number) words
  values = values-read number (number_small bs there) words

  suffix-long : length (suffix_of bs) ≡ 8 * suffix_words (words_of number)
  unfolding suffix_of suffix_start
  suffix-long =
      ap (λ (k : ℕ). length (take (8 * suffix_words k) (drop (cond (ltb 4 k) 32 0) bs))) (counted_words bs there) ∙
      by-test (ltb 4 (words_of number))
      (λ t.
      let h : 4 < words_of number = ltb-true 4 (words_of number) t in
      let l = (list-long bs there) in
      rw t (simp (length-take, length-drop) (omega arith)))
      (λ f.
      let h : words_of number ≤ 4 = ltb-false 4 (words_of number) f in
      let z : 8 * suffix_words (words_of number) ≡ 0 = omega arith in
      rw (f, z))

  -- a command that was decoded can be encoded with its suffix
  encodes : encodable command (suffix_of bs) ≡ true
  unfolding encodable
  encodes =
      rw (number-in-row-read number (number_small bs there) words, (number-whole bs there), values, fits_read (layout number) words (layout-readable number (number_small bs there)), eq-eqb (length (suffix_of bs)) (8 * suffix_words (words_of number)) suffix-long)

  word_kept_lem : (k : ℕ) → k < base_words number → packed_word number (numbers_of command) k ≡ word_kept number k (word_at bs k)
  word_kept_lem k h =
      ap (λ (vs : List Value). packed_word number (map number_of_value vs) k) values ∙
      ap (λ (x : ℕ). cond (eqb k 0) (fixed_bits number * 2 ^ 56) 0 + x) (packed-read k (layout number) words (layout-readable number (number_small bs there))) ∙
      ap (word_kept number k) (own-word bs (whole_words bs) k (omega arith) (omega (arith, (counted_words bs there))))

  bytes-kept : (k : ℕ) → k ≤ base_words number → packed_bytes number (numbers_of command) k ≡ bytes_kept number bs k
  unfolding packed_bytes bytes_kept
  bytes-kept zero h = refl
  bytes-kept (suc k) h = λ i. bytes-kept k (omega arith) i ++ bytes_of (word_kept_lem k h i)

  -- the bytes written: its words with the unused bits zero, and its suffix
  bytes-encoded : encoded_bytes command (suffix_of bs) ≡ bytes_kept number bs (base_words number) ++ suffix_of bs
  unfolding bytes_with
  bytes-encoded =
      ap (λ (k : ℕ). packed_bytes k (numbers_of command) (base_words k) ++ suffix_of bs) (number-whole bs there) ∙
      ap (λ (x : List ℕ). x ++ suffix_of bs) (bytes-kept (base_words number) (omega arith))

  -- encoding what was decoded gives the command's words with unused bits zero, where there is room for them
  module _ (out : List ℕ) (room : words_of number ≤ length out / 8) where
    room_lem : has_room (number_of command) out ≡ true
    room_lem = ap (λ (k : ℕ). has_room k out) (number-whole bs there) ∙ le-leb _ _ room

    pub answer-whole : encode_answer command (suffix_of bs) out ≡ answer 0 (words_of number)
    unfolding answer_with
    answer-whole = rw (encodes, room_lem) (ap (λ (k : ℕ). answer 0 (words_of k)) (number-whole bs there))

    pub output-whole : encode_out command (suffix_of bs) out ≡ overwrite (bytes_kept number bs (base_words number) ++ suffix_of bs) out
    output-whole = output command (suffix_of bs) out encodes room_lem ∙ ap (λ (x : List ℕ). overwrite x out) bytes-encoded
