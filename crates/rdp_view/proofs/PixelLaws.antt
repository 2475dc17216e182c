-- Pixels as four bytes each: by the size number, and so many of them one after the other. Assumes nothing.
use Rattle.std.proofs.Common.{◌≡◌, refl, sym, ap, ◌∙◌, List, ◌++◌, append_assoc, append-nil, ℕ, zero, suc, ◌+◌, ◌-◌, ◌*◌, eqb, length, take, drop, length-append, add-one, mul_comm, arith}
use Rattle.std.proofs.Math.Nat.{zero-mul, suc-mul}
use Rattle.std.proofs.Math.Seq.{drop-drop, take_all}
use Rattle.std.proofs.lemmas.List.{take_rest}
use Rattle.rdp_words.specs.Words.{overwrite, pasted}
use Rattle.rdp_words.proofs.Tests.{by-test}
use Rattle.rdp_words.proofs.OverwriteLaws.{pasted-after}
use Rattle.rdp_view.specs.View.{pixel_bytes, rgba, pixels}

pub length-rgba : (size : ℕ) (bs : List ℕ) → length (rgba size bs) ≡ 4
unfolding rgba
length-rgba size bs = by-test (eqb size 1) (λ t. rw t) (λ f. by-test (eqb size 2) (λ t. rw (f, t)) (λ g. rw (f, g)))

-- ---- so many pixels

pub length-pixels : (size n : ℕ) (bs : List ℕ) → length (pixels size n bs) ≡ 4 * n
unfolding pixels
length-pixels size zero bs = refl
length-pixels size (suc n) bs =
    omega (arith, length-append (rgba size bs) (pixels size n (drop (pixel_bytes size) bs)), length-rgba size bs, length-pixels size n (drop (pixel_bytes size) bs))

-- one pixel more
pub pixels-last : (size n : ℕ) (bs : List ℕ) → pixels size (suc n) bs ≡ pixels size n bs ++ rgba size (drop (n * pixel_bytes size) bs)
unfolding pixels
pixels-last size zero bs = rw zero-mul (append-nil (rgba size bs))
pixels-last size (suc n) bs =
    let b : ℕ = pixel_bytes size in
    let next : n * b + b ≡ suc n * b = sym (suc-mul n b) in
    ap (λ (l : List ℕ). rgba size bs ++ l) (pixels-last size n (drop b bs))
    ∙ sym (append_assoc (rgba size bs) (pixels size n (drop b bs)) (rgba size (drop (n * b) (drop b bs))))
    ∙ ap (λ (l : List ℕ). pixels size (suc n) bs ++ rgba size l) (drop-drop (n * b) b bs ∙ ap (λ (k : ℕ). drop k bs) (omega arith))

-- pixel k is written after those before it: the first of what is left of the image, whose pixels have b bytes
pub pixel-written : (size b k n : ℕ) (image before out part : List ℕ) → b ≡ pixel_bytes size → out ≡ overwrite (pixels size k image) before
    → part ≡ take 4 (rgba size (take (length image - b * k) (drop (b * k) image))) → n ≡ 4
    → take (4 * k) out ++ (part ++ drop n (drop (4 * k) out)) ≡ overwrite (pixels size (k + 1) image) before
unfolding pasted overwrite
pixel-written size b k n image before out part bytes done is four =
    let place : b * k ≡ k * pixel_bytes size = mul_comm b k ∙ ap (λ (x : ℕ). k * x) bytes in
    let pixel : List ℕ = rgba size (drop (k * pixel_bytes size) image) in
    let whole : part ≡ pixel =
    is
    ∙ ap (λ (l : List ℕ). take 4 (rgba size l)) (take_rest image (b * k) ∙ ap (λ (x : ℕ). drop x image) place)
    ∙ take_all 4 pixel (omega (arith, length-rgba size (drop (k * pixel_bytes size) image))) in
    let size-is : n ≡ length pixel = four ∙ sym (length-rgba size (drop (k * pixel_bytes size) image)) in
    rw (whole, size-is)
    (ap (pasted (4 * k) pixel) done
    ∙ pasted-after (pixels size k image) pixel before (4 * k) (length-pixels size k image)
    ∙ ap (λ (l : List ℕ). overwrite l before) (sym (pixels-last size k image) ∙ ap (λ (x : ℕ). pixels size x image) (sym (add-one k))))
