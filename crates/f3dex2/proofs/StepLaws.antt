-- One command of the walk, as `read_command` meets it, and a word that it writes. Assumes nothing.
use Rattle.std.proofs.Common.{◌≡◌, refl, sym, ◌∙◌, ap, Bool, true, false, cond, List, ℕ, zero, suc, ◌+◌, ◌-◌, ◌/◌, ◌<◌, arith, add-zero, leb, length, leb-true}
use Rattle.std.specs.Prelude.{Result, Ok, Err}
use Rattle.std.proofs.lemmas.Bool.Decides.{nat_tests}
use Rattle.rdp_words.specs.Words.{word_at}
use Rattle.rdp_words.specs.Grounds.{number_of}
use Rattle.rdp_words.specs.declared.grounds.Ground.{Ground}
use Rattle.rdp_words.specs.declared.grounds.Ground.TheVariants.{NoCommand, TooManyCommands}
use Rattle.f3dex2.specs.Commands.{first_byte, setting_after}
use Rattle.f3dex2.specs.Walk.{Walked, stopped, counted, readable, walk}
use Rattle.f3dex2.specs.Steps.{action_by, action_of, acted, perform, read_refusal, put_words, refused_with, settled_on, walk_left, Refuses, Reads}
use Rattle.f3dex2.proofs.ActionLaws.{stepped}
use Rattle.f3dex2.specs.declared.Setting.{Setting}
use Rattle.f3dex2.specs.declared.Walker.{Walker}
use Rattle.f3dex2.specs.declared.Action.{Action}

-- nothing is to come
settled-stopped : (g at : ℕ) (v : Walker) → settled_on (stopped g at) v ≡ refused_with g at v
settled-stopped g at v =
    λ i. record { number = g; place = at; read = add-zero v.read i; words = add-zero v.written i; out = v.out.now }

-- one command is read
settled-counted :
    (r : Walked) (w v : Walker) (word : ℕ) → v.read ≡ w.read + 1 → v.written ≡ w.written → v.out.now ≡ w.out.now → settled_on (counted word r) w ≡ settled_on r v
settled-counted r w v word more e out =
    let reads : w.read + suc (length r.commands) ≡ v.read + length r.commands = omega arith in
    λ i.
    record {
      number = r.number;
      place = r.place;
      read = reads i;
      words = sym e i + length r.words;
      out = put_words (sym e i) r.words (sym out i);
    }

-- the refusal of an offset, by whether it can be read, and whether no more may be read
abbrev refusal-by : Bool → Bool → Result (Unit {0}) Ground
refusal-by b f = cond b (cond f (Err TooManyCommands) (Ok tt)) (Err NoCommand)

module _ (memory : List ℕ) (at : ℕ) where
  unreadable : (left : ℕ) (returns : List ℕ) (set : Setting) → readable memory at ≡ false → walk memory left returns at set ≡ stopped 20 at
  unfolding walk
  unreadable zero returns set e = rw e
  unreadable (suc left) returns set e = rw e

  full : (left : ℕ) (returns : List ℕ) (set : Setting) → readable memory at ≡ true → left ≡ 0 → walk memory left returns at set ≡ stopped 21 at
  unfolding walk
  full left returns set e z = rw (z, e)

-- the command at an offset
module _ (w : Walker) (at depth : ℕ) where
  refuses : {n : ℕ} → ((returns : List ℕ) → length returns ≡ depth → walk_left w returns at w.setting ≡ stopped n at) → Refuses w at depth n at w
  refuses {n} h = record { same = λ returns d. ap (λ (r : Walked). settled_on r w) (h returns d) ∙ settled-stopped n at w }

  unread-by :
      {g : Ground} (b f : Bool) → readable w.memory.now at ≡ b → leb 4096 w.read ≡ f → Err g ≡ refusal-by b f → Refuses w at depth (number_of g) at w
  unread-by {g} false f e h is =
      let same : g ≡ NoCommand = cc in
      rw same (refuses (λ returns d. unreadable w.memory.now at (4096 - w.read) returns w.setting e))
  unread-by {g} true true e h is =
      let same : g ≡ TooManyCommands = cc in
      rw same (refuses (λ returns d. full w.memory.now at (4096 - w.read) returns w.setting e (omega (arith, leb-true _ _ h))))
  unread-by true false e h is = absurd cc

  -- it cannot be read
  pub unread : {g : Ground} → Err g ≡ read_refusal w.memory.now at w.read → Refuses w at depth (number_of g) at w
  unread = unread-by (readable w.memory.now at) (leb 4096 w.read) refl refl

  -- it is read: what it does, or why it is refused
  module _ (can : Ok tt ≡ read_refusal w.memory.now at w.read) {word : ℕ} (is-word : word ≡ word_at w.memory.now (at / 8)) {set : Setting}
      (is_set : set ≡ setting_after w.setting word) where
    there : readable w.memory.now at ≡ true
    there = grind (arith, nat_tests)

    left : w.read < 4096
    left = grind (arith, nat_tests)

    abbrev go : List ℕ → ℕ → Setting → Walked
    go = walk w.memory.now (4096 - (w.read + 1))

    abbrev act : Result Action Ground
    act = action_by w.setting.due set depth (first_byte word) word

    one-step : (returns : List ℕ) → length returns ≡ depth → walk_left w returns at w.setting ≡ perform go returns at word set act
    unfolding action_of
    one-step returns d =
        let e : 4096 - w.read ≡ suc (4096 - (w.read + 1)) = omega (arith, left) in
        rw (e, is_set, is-word, ← d) (stepped w.memory.now at (4096 - (w.read + 1)) returns w.setting there)

    pub stays : {g : Ground} → Err g ≡ act → Refuses w at depth (number_of g) at w
    stays is = refuses (λ returns d. one-step returns d ∙ ap (perform go returns at word set) (sym is))

    pub reads :
        {action : Action} → Ok action ≡ act → (v : Walker) → v.memory.now ≡ w.memory.now → v.out.now ≡ w.out.now → v.setting ≡ set →
        v.read ≡ w.read + 1 → v.written ≡ w.written → Reads w at depth action v
    reads {action} is v memory out same more e =
        record {
          there = grind (arith, nat_tests, there);
          most = omega (arith, left);
          more = more;
          written = e;
          same =
              λ returns d.
              let step : walk_left w returns at w.setting ≡ counted word (acted go returns at set action) =
              one-step returns d ∙ ap (perform go returns at word set) (sym is) in
              let same_acted : acted go returns at set action ≡ acted (walk_left v) returns at v.setting action = rw (same, more, memory) in
              ap (λ (r : Walked). settled_on r w) step ∙
              settled-counted (acted go returns at set action) w v word more e out ∙
              ap (λ (r : Walked). settled_on r v) same_acted;
        }
