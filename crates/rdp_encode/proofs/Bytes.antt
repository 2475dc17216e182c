-- The bytes of a command's words, written at the front of a list. Assumes nothing.
use Rattle.std.proofs.Common.{ℕ, zero, suc, ◌+◌, ◌-◌, ◌*◌, ◌≡◌, refl, ap, sym, ◌∙◌, List, [], ◌∷◌, ◌++◌, add-one, arith, length, length-append, take, drop}
use Rattle.rdp_words.specs.Words.{bytes_of, overwrite, pasted}
use Rattle.rdp_words.proofs.OverwriteLaws.{overwrite-none, pasted-after}
use Rattle.rdp_encode.specs.Encode.{packed_word, packed_bytes, base_words, bytes_with}

-- bytes put into the part from a to e, which they fill
pub part-put : (bytes out : List ℕ) (a e : ℕ) → a + length bytes ≡ e → take a out ++ (bytes ++ drop (e - a) (drop a out)) ≡ pasted a bytes out
unfolding pasted overwrite
part-put bytes out a e fills =
    let n : e - a ≡ length bytes = omega arith in
    ap (λ (k : ℕ). take a out ++ (bytes ++ drop k (drop a out))) n

pub packed-long : (n : ℕ) (ns : List ℕ) (k : ℕ) → length (packed_bytes n ns k) ≡ 8 * k
unfolding packed_bytes
packed-long n ns zero = refl
packed-long n ns (suc k) =
    length-append (packed_bytes n ns k) (bytes_of (packed_word n ns k)) ∙ omega (arith, packed-long n ns k)

pub packed_none : (n : ℕ) (ns out : List ℕ) → overwrite (packed_bytes n ns 0) out ≡ out
unfolding packed_bytes
packed_none n ns out = overwrite-none out

-- one word more
pub packed_more :
    (n : ℕ) (ns out : List ℕ) (k : ℕ) → pasted (8 * k) (bytes_of (packed_word n ns k)) (overwrite (packed_bytes n ns k) out) ≡ overwrite (packed_bytes n ns (k + 1)) out
unfolding packed_bytes
packed_more n ns out k =
    pasted-after (packed_bytes n ns k) (bytes_of (packed_word n ns k)) out (8 * k) (packed-long n ns k) ∙
    ap (λ (j : ℕ). overwrite (packed_bytes n ns j) out) (sym (add-one k))

pub empty : (xs : List ℕ) → length xs ≡ 0 → xs ≡ []
empty [] e = refl
empty (x ∷ xs) e = absurd (omega arith)

-- the base words, and the suffix after them
pub whole-bytes : (n : ℕ) (ns suffix : List ℕ) {k : ℕ} → k ≡ base_words n → packed_bytes n ns k ++ suffix ≡ bytes_with n ns suffix
unfolding bytes_with
whole-bytes n ns suffix e = ap (λ (k : ℕ). packed_bytes n ns k ++ suffix) e
