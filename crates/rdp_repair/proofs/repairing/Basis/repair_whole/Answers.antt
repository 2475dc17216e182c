-- `rdp_repair::repairing::Basis::repair_whole` meets its contract: the plan, the output and the cleared work buffer, by `RepairLaws`. Assumes nothing.
use Rattle.std.proofs.Common.{◌≡◌, ap, ◌∙◌, Bool, List, ℕ, ◌*◌, ◌≤◌, arith, length, replicate}
use Rattle.rdp_words.specs.Words.{overwrite}
use Rattle.rdp_check.specs.Commands.{commands_of}
use Rattle.rdp_repair.specs.Best.{repaired_bytes, least_cycles}
use Rattle.rdp_repair.specs.Work.{basis_of, due_bytes}
use Rattle.rdp_repair.proofs.DropLaws.{best-basis}
use Rattle.rdp_repair.proofs.RepairLaws.{list-short, commands-few, words-needed, choices-below, due-held, work-cleared, refused-out, repaired-is}
use Rattle.rdp_repair.proofs.repairing.Basis.repair_whole.Goals.{After-plan-planned}
use Rattle.rdp_repair.proofs.repairing.Basis.repair_whole.Goals as goal

-- after the plan is made
module _ (p : After-plan-planned) where
  abbrev afresh : Bool
  afresh = p.args.self.afresh

  abbrev list : List ℕ
  list = p.args.self.list.now

  abbrev basis : List ℕ
  basis = basis_of afresh list

  abbrev work : List ℕ
  work = p.args.work.now

  abbrev held : List ℕ
  held = p.plan-planned.new.work

  abbrev count : ℕ
  count = p.plan-planned.result.commands

  long : length held ≡ length work
  long = p.plan-planned.auto.work

  needed : (length (repaired_bytes basis) ≡ 8 * p.plan-planned.result.words) × (p.plan-planned.result.words ≤ 4096)
  needed = words-needed afresh list p.requires.0 _ p.plan-planned.ensures.words

  few : count ≤ 2048
  few = omega (arith, p.plan-planned.ensures.commands, commands-few list p.requires.0)

  room : 16 * count ≤ length held
  room = omega (arith, p.plan-planned.ensures.commands, p.requires.1, long)

  due-is : due_bytes afresh list held ≡ repaired_bytes basis
  due-is = due-held afresh list work held p.plan-planned.ensures.choices

  written_is : (out out' : List ℕ) → out' ≡ overwrite (due_bytes afresh list held) out → out' ≡ overwrite (repaired_bytes basis) out
  written_is out out' e = e ∙ ap (λ (l : List ℕ). overwrite l out) due-is

  cycles-is : p.plan-planned.result.cycles ≡ least_cycles basis
  cycles-is = p.plan-planned.ensures.cycles ∙ best-basis afresh list

  cleared-is : (work' : List ℕ) → work' ≡ overwrite (replicate (16 * count) 0) held → work' ≡ overwrite (replicate (16 * length (commands_of list)) 0) work
  cleared-is work' e = e ∙ work-cleared afresh list work held p.plan-planned.ensures.choices count p.plan-planned.ensures.commands

pub plan-planned-requires : goal.plan-planned-requires
plan-planned-requires c = (list-short c.args.self.list.now c.requires.0, c.requires.1)

pub overflow_cast-words : goal.overflow_cast-words
overflow_cast-words c = omega (arith, (needed (goal.at.overflow_cast-words c).After-plan-planned).1)

pub returns-then-out-needed : goal.returns-then-out-needed
returns-then-out-needed c =
    let there = (goal.at.returns-then-out-needed c).After-plan-planned in
    refused-out (basis there) (list there) (work there) c.args.out.now c.requires.0 c.requires.1 _ (needed there).0 _ (cleared-is there _ c.clear.ensures)
    c.if-out-needed.true

pub write-requires : goal.write-requires
write-requires c =
    let there = (goal.at.write-requires c).After-plan-planned in (
      omega (arith, long there, c.requires.1),
      choices-below (afresh there) (list there) (work there) (held there) c.plan-planned.ensures.choices,
      omega (arith, ap length (due-is there), (needed there).0, c.if-out-needed.false),
    )

pub returns : goal.returns
returns c =
    let there = (goal.at.returns c).After-plan-planned in
    let out : List ℕ = c.args.out.now in
    repaired-is (basis there) (list there) (work there) out c.requires.0 c.requires.1 _ (needed there).0 _ (cleared-is there _ c.clear-2.ensures)
    c.if-out-needed.false _ (cycles-is there) _ (written_is there out _ c.write.ensures)
