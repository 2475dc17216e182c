-- `rdp_check::cause::latest_among` meets its contract: from what was found, the latest of what is left is the answer. Assumes nothing.
use Rattle.std.proofs.Common.{◌≡◌, ◌+◌, ◌≤◌, ◌/◌, ℕ, Bool, cond, ap, sym, refl, ◌∙◌, arith, length}
use Rattle.rdp_words.specs.Words.{number_in, word_at}
use Rattle.rdp_words.specs.Kinds.{words_of}
use Rattle.rdp_words.proofs.PlaceLaws.{some_words}
use Rattle.rdp_check.proofs.ListLaws.{rest_at, commands-past}
use Rattle.rdp_check.proofs.CauseLaws.{seek-first, seek-fits, seek-on, seek-end}
use Rattle.rdp_check.proofs.cause.latest_among.Goals.{After-words_of-at, then-is_among, else-is_among}
use Rattle.rdp_check.proofs.cause.latest_among.Goals as goal

pub loop-at-init : goal.loop-at-init
loop-at-init c = (seek-first c.args.numbers c.args.list.now c.args.other, c.requires)

chosen : (c : After-words_of-at) → c.if-is_among.found ≡ cond c.is_among.result c.loop-at.at c.loop-at.found
chosen c =
    elim c.if-is_among.branch [
      | then-is_among w ↦ rw w.if-is_among.true w.found-is
      | else-is_among w ↦ rw w.if-is_among.false w.found-is
    ]

fits : (c : After-words_of-at) → c.loop-at.at + words_of c.number_at-number.result ≤ length c.args.list.now / 8
fits c = seek-fits c.args.list.now c.loop-at.at _ c.number_at-number.ensures c.loop-at.invariant.1 c.loop-at-test.true

pub overflow_add-at : goal.overflow_add-at
overflow_add-at c =
    let k = (goal.at.overflow_add-at c).After-words_of-at in
    let inside = fits k in
    let words = c.words_of-at.ensures in
    search (arith, words, inside)

pub loop-at-smaller : goal.loop-at-smaller
loop-at-smaller c =
    let k = (goal.at.loop-at-smaller c).After-words_of-at in
    let some = some_words c.args.list.now c.loop-at.at _ c.number_at-number.ensures in
    omega (arith, some, c.words_of-at.ensures, fits k)

pub loop-at-preserved : goal.loop-at-preserved
loop-at-preserved c =
    let k = (goal.at.loop-at-preserved c).After-words_of-at in
    rw (c.words_of-at.ensures) (
      seek-on c.loop-at.invariant.0 _ c.number_at-number.ensures (fits k) _
          (chosen k ∙ ap (λ (b : Bool). cond b c.loop-at.at c.loop-at.found) c.is_among.ensures),
      sym (rest_at c.args.list.now c.loop-at.at _ c.number_at-number.ensures (fits k)) ∙ c.loop-at.invariant.1,
    )

pub returns : goal.returns
returns c =
    let list = c.args.list.now in
    let n : ℕ = number_in (word_at list c.loop-at.at) in
    seek-end c.loop-at.invariant.0
    (commands-past list c.loop-at.at n refl (omega (arith, c.loop-at-test.false, some_words list c.loop-at.at n refl)))
