-- The loops over a list of whole commands: what holds at their heads, and what a turn does. Assumes nothing.
use Rattle.std.proofs.Common.{◌≡◌, refl, sym, ap, ◌∙◌, Bool, List, [], ◌∷◌, ◌++◌, append-nil, append_assoc, ℕ, ◌+◌, ◌*◌, ◌/◌, ◌%◌, ◌<◌, ◌≤◌, arith, length, get_or, drop, set, length-append, length-set, drop-set-lt}
use Rattle.std.proofs.Math.Seq.{append_snoc}
use Rattle.rdp_words.specs.Lengths.{first_number}
use Rattle.rdp_words.specs.Words.{overwrite, pasted, WrittenIs}
use Rattle.rdp_words.proofs.OverwriteLaws.{overwrite-none, length-overwrite, pasted-after}
use Rattle.rdp_check.specs.Commands.{commands_of, joined}
use Rattle.rdp_repair.specs.Plan.{applied}
use Rattle.rdp_repair.specs.Work.{tabulate, noted_number, noted_of, kept_words, kept_words_in, kept_of, kept_all, noted_in, options_in, Below, option_bytes, due_bytes, NotedIs}
use Rattle.rdp_check.proofs.JoinLaws.{count-joined, parsed, words_inside}
use Rattle.rdp_repair.proofs.DropLaws.{kept-most}
use Rattle.rdp_repair.proofs.TabulateLaws.{noted_more}
use Rattle.rdp_repair.proofs.WriteLaws.{applied-next}

-- a list has at most a command a word
pub few_commands : (list : List ℕ) → 8 * length (commands_of list) ≤ length list
few_commands list = omega (arith, count-joined (commands_of list) (parsed list).alone, words_inside list)

-- ---- noting the numbers

-- the numbers of the first i commands are noted, and the others are those of the bytes that are left
pub record Noting (afresh : Bool) (list left work₀ work : List ℕ) (i kept : ℕ) : Type 0 where
  pub count : i + length (commands_of left) ≡ length (commands_of list)
  pub room : 16 * length (commands_of list) ≤ length work₀
  pub numbers : noted_in work i ++ noted_of afresh (commands_of left) ≡ noted_of afresh (commands_of list)
  pub counted : kept + kept_words_in afresh (commands_of left) ≡ kept_words_in afresh (commands_of list)
  pub long : length work ≡ length work₀
  pub beyond : drop (16 * length (commands_of list)) work ≡ drop (16 * length (commands_of list)) work₀

pub noting-first :
    (afresh : Bool) (list work : List ℕ) → 16 * length (commands_of list) ≤ length work → Noting afresh list list work work 0 0
unfolding noted_in tabulate
noting-first afresh list work h =
    record { count = omega arith; room = h; numbers = refl; counted = omega arith; long = refl; beyond = refl }

module _ {afresh : Bool} {list left work₀ work : List ℕ} {i kept : ℕ} (t : Noting afresh list left work₀ work i kept) where
  pub noted-all : commands_of left ≡ [] → NotedIs afresh list work₀ (record { commands = i; words = kept }) work
  noted-all none =
      let all : i ≡ length (commands_of list) = omega (arith, t.count, ap length none) in
      record {
        counted = all;
        words = omega (arith, t.counted, ap (kept_words_in afresh) none);
        numbers =
            ap (noted_in work) (sym all) ∙
            sym (append-nil (noted_in work i)) ∙
            ap (λ (cs : List (List ℕ)). noted_in work i ++ noted_of afresh cs) (sym none) ∙
            t.numbers;
        beyond = t.beyond;
      }

  module _ (c left' : List ℕ) (next : commands_of left ≡ c ∷ commands_of left') where
    pub note-room : 16 * i < length work
    note-room = omega (arith, t.count, ap length next, t.room, t.long)

    pub kept-few : 8 * (kept + kept_words afresh (first_number c)) ≤ length list
    kept-few =
        omega (arith, t.counted, ap (kept_words_in afresh) next, kept-most afresh (commands_of list), words_inside list)

    pub noting-next :
        (noted : ℕ) → noted ≡ noted_number afresh (first_number c) → (more : ℕ) → more ≡ kept_words afresh (first_number c) →
        Noting afresh list left' work₀ (set work (16 * i) noted) (i + 1) (kept + more)
    noting-next noted is-noted more is-more =
        record {
          count = omega (arith, t.count, ap length next);
          room = t.room;
          numbers =
              ap (λ (l : List ℕ). l ++ noted_of afresh (commands_of left')) (noted_more work i noted note-room) ∙
              append_snoc (noted_in work i) noted (noted_of afresh (commands_of left')) ∙
              ap (λ (k : ℕ). noted_in work i ++ k ∷ noted_of afresh (commands_of left')) is-noted ∙
              ap (λ (l : List ℕ). noted_in work i ++ l) (sym (ap (noted_of afresh) next)) ∙
              t.numbers;
          counted = omega (arith, t.counted, ap (kept_words_in afresh) next);
          long = simp length-set t.long;
          beyond =
              drop-set-lt (16 * length (commands_of list)) work (16 * i) noted (omega (arith, t.count, ap length next)) ∙ t.beyond;
        }

-- ---- writing the plan

-- the bytes that are due for the commands that are left, with the plan that the work buffer holds from command i and hazards m on
abbrev pub due_from : Bool → List ℕ → List ℕ → ℕ → ℕ → List ℕ
due_from afresh left work i m =
    let cs : List (List ℕ) = kept_all afresh (commands_of left) in
    joined (applied (options_in (length cs) (drop (16 * i) work) m) cs)

pub record Writing (afresh : Bool) (list left work out₀ out : List ℕ) (m i to : ℕ) : Type 0 where
  pub count : i + length (commands_of left) ≡ length (commands_of list)
  pub small : m < 16
  pub choices : 16 * length (commands_of list) ≤ length work
  pub below : Below 64 work (16 * length (commands_of list))
  pub room : length (due_bytes afresh list work) ≤ length out₀
  pub done : List ℕ
  pub output : out ≡ overwrite done out₀
  pub index : to ≡ length done
  pub due : done ++ due_from afresh left work i m ≡ due_bytes afresh list work

pub writing-first :
    (afresh : Bool) (list work out : List ℕ) → 16 * length (commands_of list) ≤ length work → Below 64 work (16 * length (commands_of list)) →
    length (due_bytes afresh list work) ≤ length out → Writing afresh list list work out out 0 0 0
writing-first afresh list work out choices below room =
    record {
      count = omega arith;
      small = omega arith;
      choices = choices;
      below = below;
      room = room;
      done = [];
      output = sym (overwrite-none out);
      index = refl;
      due = refl;
    }

module _ {afresh : Bool} {list left work out₀ out : List ℕ} {m i to : ℕ} (w : Writing afresh list left work out₀ out m i to) where
  fitting : length w.done ≤ length out₀
  fitting = omega (arith, w.room, ap length w.due, length-append w.done (due_from afresh left work i m))

  pub output-long : length out ≡ length out₀
  output-long = ap length w.output ∙ length-overwrite w.done out₀ fitting

  pub all-written : commands_of left ≡ [] → out ≡ overwrite (due_bytes afresh list work) out₀
  unfolding applied
  all-written none =
      let nothing : due_from afresh left work i m ≡ [] =
      ap (λ (cs : List (List ℕ)). joined (applied (options_in (length (kept_all afresh cs)) (drop (16 * i) work) m) (kept_all afresh cs))) none in
      w.output ∙
      ap (λ (l : List ℕ). overwrite l out₀)
      (sym (append-nil w.done) ∙ ap (λ (l : List ℕ). w.done ++ l) (sym nothing) ∙ w.due)

  module _ (c left' : List ℕ) (next : commands_of left ≡ c ∷ commands_of left') where
    pub choice-there : 16 * i + m < 16 * length (commands_of list)
    choice-there = omega (arith, w.count, ap length next, w.small)

    abbrev choice : ℕ
    choice = get_or work (16 * i + m) 0

    pub choice-small : choice < 64
    choice-small = w.below (16 * i + m) choice-there

    -- the bytes of a turn
    abbrev turn : List ℕ
    turn = option_bytes (choice / 16) ++ kept_of afresh c

    due-next : due_from afresh left work i m ≡ turn ++ due_from afresh left' work (i + 1) (choice % 16)
    due-next =
        let rest : List (List ℕ) = kept_all afresh (commands_of left') in
        ap (λ (cs : List (List ℕ)). joined (applied (options_in (length cs) (drop (16 * i) work) m) cs)) (ap (kept_all afresh) next) ∙
        applied-next (kept_of afresh c) rest work i m ∙
        sym (append_assoc (option_bytes (choice / 16)) (kept_of afresh c) _)

    due-turn : (w.done ++ turn) ++ due_from afresh left' work (i + 1) (choice % 16) ≡ due_bytes afresh list work
    due-turn =
        append_assoc w.done turn (due_from afresh left' work (i + 1) (choice % 16)) ∙ ap (λ (l : List ℕ). w.done ++ l) (sym due-next) ∙ w.due

    pub turn-fits :
        (option : ℕ) → option ≡ choice / 16 → (bytes : List ℕ) → bytes ≡ kept_of afresh c → to + length (option_bytes option) + length bytes ≤ length out
    turn-fits option is-option bytes is-bytes =
        rw (is-option, is-bytes)
        (omega (
          arith,
          output-long,
          w.index,
          w.room,
          ap length due-turn,
          length-append (w.done ++ turn) (due_from afresh left' work (i + 1) (choice % 16)),
          length-append w.done turn,
          length-append (option_bytes (choice / 16)) (kept_of afresh c),
        ))

    pub writing-next :
        (option : ℕ) → option ≡ choice / 16 → (bytes : List ℕ) → bytes ≡ kept_of afresh c →
        (to' : ℕ) (out' : List ℕ) → WrittenIs (option_bytes option ++ bytes) to to' out out' → Writing afresh list left' work out₀ out' (choice % 16) (i + 1) to'
    writing-next option is-option bytes is-bytes to' out' written =
        let r = rw (is-option, is-bytes) at written in
        record {
          count = omega (arith, w.count, ap length next);
          small = omega arith;
          choices = w.choices;
          below = w.below;
          room = w.room;
          done = w.done ++ turn;
          output = r.output ∙ ap (pasted to turn) w.output ∙ pasted-after w.done turn out₀ to (sym w.index);
          index = omega (arith, r.after, w.index, length-append w.done turn);
          due = due-turn;
        }
