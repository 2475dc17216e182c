-- The two walks of `translate`: the first counts, the second writes. Assumes nothing.
use Rattle.std.proofs.Common.{◌≡◌, refl, sym, ◌∙◌, ap, false, List, [], ◌∷◌, ◌++◌, append_assoc, append-nil, ℕ, suc, ◌+◌, ◌*◌, ◌≤◌, ◌<◌, arith, eqb, length, length-append, le-leb}
use Rattle.std.proofs.lemmas.Bool.{lt-leb}
use Rattle.std.specs.Prelude.{Result, Ok, Err}
use Rattle.rdp_words.specs.Words.{bytes_of, overwrite, bytes_of_words}
use Rattle.rdp_words.proofs.OverwriteLaws.{overwrite-is, length-overwrite, pasted-after}
use Rattle.f3dex2.specs.Walk.{Walked}
use Rattle.f3dex2.specs.Steps.{put_word, put_words, WalkIs, Finished, Cut}
use Rattle.f3dex2.specs.Translate.{Translated, told, translated_of, out_of}
use Rattle.f3dex2.proofs.GroundLaws.{never-zero}
use Rattle.f3dex2.specs.declared.Translated as made
use Rattle.f3dex2.specs.declared.Untranslated.{Untranslated}

-- a word written after others
put_one : (w k : ℕ) (bs out : List ℕ) → length bs ≡ 8 * k → 8 * k + 8 ≤ length out → put_word k w (overwrite bs out) ≡ overwrite (bs ++ bytes_of w) out
unfolding put_word
put_one w k bs out e h =
    let same : length (overwrite bs out) ≡ length out = length-overwrite bs out (omega arith) in
    rw (le-leb (8 * k + 8) (length (overwrite bs out)) (omega arith)) (pasted-after bs (bytes_of w) out (8 * k) e)

-- words written after others, where there is room for all
put-after : (ws : List ℕ) (k : ℕ) (bs out : List ℕ) → length bs ≡ 8 * k → 8 * (k + length ws) ≤ length out → put_words k ws (overwrite bs out) ≡ overwrite (bs ++ bytes_of_words ws) out
put-after [] k bs out e h = ap (λ (l : List ℕ). overwrite l out) (sym (append-nil bs))
put-after (w ∷ ws) k bs out e h =
    let e' : length (bs ++ bytes_of w) ≡ 8 * suc k = length-append bs (bytes_of w) ∙ omega arith in
    ap (put_words (suc k) ws) (put_one w k bs out e (omega arith)) ∙
    put-after ws (suc k) (bs ++ bytes_of w) out e' (omega arith) ∙
    ap (λ (l : List ℕ). overwrite l out) (append_assoc bs (bytes_of w) (bytes_of_words ws))

put_all : (ws out : List ℕ) → 8 * length ws ≤ length out → put_words 0 ws out ≡ overwrite (bytes_of_words ws) out
put_all ws out h = ap (put_words 0 ws) (sym (overwrite-is [] out 0 refl)) ∙ put-after ws 0 [] out refl (omega arith)

-- a walk that is refused
module _ {r : Walked} {u : Untranslated} (cut : Cut r u) where
  refused : eqb r.number 0 ≡ false
  refused = rw cut.number (never-zero u.ground)

  pub refused-answer : (room : ℕ) → told (Err u) ≡ translated_of r room
  unfolding translated_of
  refused-answer room = rw (refused, cut.number, cut.place, cut.read)

  pub refused-out : (out : List ℕ) → out ≡ out_of r out
  unfolding out_of translated_of
  refused-out out = rw (refused, refused)

-- a walk that comes to its end
module _ {r : Walked} {t : made.Translated} (done : Finished r t) where
  module _ (out : List ℕ) where
    pub short-answer : length out < 8 * t.words → ◌≡◌ {A = Translated} (record { number = 14; place = t.words; read = t.read }) (translated_of r (length out))
    unfolding translated_of
    short-answer h = rw (done.number, done.words, done.read, lt-leb (8 * t.words) (length out) h)

    pub short-out : length out < 8 * t.words → out ≡ out_of r out
    unfolding out_of translated_of
    short-out h = rw (done.number, done.words, lt-leb (8 * t.words) (length out) h)

    module _ (room : 8 * t.words ≤ length out) where
      -- the second walk comes to the same
      pub full-answer : (again : Result made.Translated Untranslated) → WalkIs r again → told again ≡ translated_of r (length out)
      unfolding translated_of
      full-answer (Ok v) second = rw (done.number, le-leb (8 * length r.words) (length out) (omega (arith, done.words)), second.words, second.read)
      full-answer (Err u) second = refused-answer second (length out)

      pub full-out : {last : List ℕ} → last ≡ put_words 0 r.words out → last ≡ out_of r out
      unfolding out_of translated_of
      full-out is = rw (done.number, le-leb (8 * length r.words) (length out) (omega (arith, done.words))) (is ∙ put_all r.words out (omega (arith, done.words)))
