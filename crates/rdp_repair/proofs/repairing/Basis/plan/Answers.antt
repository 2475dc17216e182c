-- `rdp_repair::repairing::Basis::plan` meets its contract: the passes one after the other, by `RepairLaws`. Assumes nothing.
use Rattle.std.proofs.Common.{◌≡◌, sym, ap, ap₂, ◌∙◌, subst, Bool, List, ℕ, ◌+◌, ◌*◌, arith, length}
use Rattle.rdp_check.specs.Commands.{commands_of}
use Rattle.rdp_repair.specs.Best.{plan}
use Rattle.rdp_repair.specs.Work.{noted_of, NotedIs, Below, work_of, options_in, inserts_of}
use Rattle.rdp_repair.specs.declared.repairing.Noted.{Noted}
use Rattle.rdp_words.specs.Words.{overwrite}
use Rattle.rdp_repair.proofs.PassLaws.{few_commands}
use Rattle.rdp_repair.proofs.RepairLaws.{words-few, noted-below, cycles-are, choices-are, choices-below, plan-held}
use Rattle.rdp_repair.proofs.repairing.Basis.plan.Goals.{After-backward-cycles}
use Rattle.rdp_repair.proofs.repairing.Basis.plan.Goals as goal

-- after the backward pass
module _ (b : After-backward-cycles) where
  abbrev afresh : Bool
  afresh = b.args.self.afresh

  abbrev list : List ℕ
  list = b.args.self.list.now

  abbrev work : List ℕ
  work = b.args.work.now

  abbrev result : Noted
  result = b.note_numbers-noted.result

  abbrev count : ℕ
  count = result.commands

  abbrev noted : NotedIs afresh list work result b.note_numbers-noted.new.work
  noted = b.note_numbers-noted.ensures

  abbrev held : List ℕ
  held = b.backward-cycles.new.work

  held-is : held ≡ overwrite (work_of (noted_of afresh (commands_of list))) work
  held-is = choices-are afresh list work _ _ noted _ _ b.backward-cycles.ensures

  held-long : length held ≡ length work
  held-long = b.backward-cycles.auto.work ∙ b.note_numbers-noted.auto.work

  held_below : Below 64 held (16 * count)
  held_below = subst (λ (k : ℕ). Below 64 held (16 * k)) (sym noted.counted) (choices-below afresh list work held held-is)

  inserts-are : (inserts : ℕ) → inserts ≡ inserts_of (options_in count held 0) → inserts ≡ inserts_of (plan (noted_of afresh (commands_of list)) 0)
  inserts-are inserts e =
      e ∙ ap (λ (k : ℕ). inserts_of (options_in k held 0)) noted.counted ∙ ap inserts_of (plan-held afresh list work held held-is)

pub backward-cycles-requires : goal.backward-cycles-requires
backward-cycles-requires c = (
  omega (arith, c.note_numbers-noted.ensures.counted, few_commands c.args.self.list.now, c.requires.0),
  omega (arith, c.note_numbers-noted.ensures.counted, c.requires.1, c.note_numbers-noted.auto.work),
  noted-below c.args.self.afresh c.args.self.list.now c.args.work.now _ _ c.note_numbers-noted.ensures,
)

pub count_inserts-requires : goal.count_inserts-requires
count_inserts-requires c =
    let there = (goal.at.count_inserts-requires c).After-backward-cycles in
    (omega (arith, held-long there, c.requires.1, (noted there).counted), held_below there)

pub overflow_add-total : goal.overflow_add-total
overflow_add-total c =
    let there = (goal.at.overflow_add-total c).After-backward-cycles in
    omega (arith, (noted there).words, inserts-are there _ c.count_inserts.ensures, words-few (afresh there) (list there) c.requires.0)

pub returns : goal.returns
returns c =
    let there = (goal.at.returns c).After-backward-cycles in
    record {
      commands = (noted there).counted;
      cycles = cycles-are (afresh there) (list there) (work there) _ _ (noted there) _ _ c.backward-cycles.ensures;
      words = ap₂ (λ (x y : ℕ). x + y) (noted there).words (inserts-are there _ c.count_inserts.ensures);
      choices = held-is there;
    }
