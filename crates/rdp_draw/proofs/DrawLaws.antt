-- The answer and the memories of drawing, as its two loops over the acts meet them. Assumes nothing.
use mathlib.Core.Bool.{Bool, true, false, cond, not, not-not}
use mathlib.Core.List.{List, [], ◌∷◌}
use mathlib.Core.Path.{◌≡◌, refl, sym, ◌∙◌, ap, subst}
use Prim.Native.Nat.{ℕ, ◌+◌, ◌/◌, ◌%◌, ◌≤◌, ◌<◌, ◌-◌}
use native.Mathlib.Omega.{arith}
use borrow.Author.Tests.{eq-eqb, ne_eqb, eqb-true, eqb-false, ltb-true, ltb-false}
use lib.Dec.{eqb, ltb}
use lib.ListN.{length, replicate}
use Rattle.rdp_words.specs.Kinds.{words_of}
use Rattle.rdp_words.specs.Grounds.{Answer}
use Rattle.rdp_command.specs.declared.FillFields.{FillFields}
use Rattle.rdp_command.specs.declared.CopyFields.{CopyFields}
use Rattle.rdp_command.specs.declared.LoadFields.{LoadFields}
use Rattle.rdp_command.specs.Decode.{answer}
use Rattle.rdp_words.proofs.Tests.{by-test, false_of}
use Rattle.rdp_check.specs.Commands.{rest_of}
use Rattle.rdp_check.specs.Check.{check_of}
use Rattle.rdp_check.specs.Order.{Ground, first_of, Among}
use Rattle.rdp_check.specs.Refusals.{past_end, too_long, of_commands}
use Rattle.rdp_check.proofs.OrderLaws.{first-none, among-gives, refused_at, refused-some, refused_none, placed_first, then-refused, then-accepted}
use Rattle.rdp_check.proofs.FirstLaws.{no_bytes, check-first}
use Rattle.rdp_texels.specs.Refusals.{copy_refusals, load_refusal, copy_refusal, load_texture, copy_memory}
use Rattle.rdp_block.specs.Block.{block_refusal, block_texture}
use Rattle.rdp_block.proofs.BlockLaws.{block-first, block-leaves}
use Rattle.rdp_texels.proofs.ActLaws.{never, load-first, copy-first, load-leaves, copy-leaves}
use Rattle.rdp_draw.specs.declared.walk.Reached.{Reached}
use Rattle.rdp_fill.specs.Fill.{outside, painted, fill_memory}
use Rattle.rdp_draw.specs.Draw.{Act, other_draw, filling, copying, loading, blocking, fill_act, copy_act, Placed, acts_of, misaligned, act_refusals, act_grounds, texture_ground, draw_answer, Memories, memories, acted, acted_all, drawn}
use Rattle.std.specs.Prelude.{Some, None}
use Rattle.rdp_draw.specs.Seen.{ActsDue, fill_at, copy_at, load_at, act_by, act_with, placed_with, act_refusal, Next, Reaches, first_refusal}
use Rattle.rdp_draw.proofs.SeenLaws.{start-due}

-- ---- a list that the check accepts

pub record Accepted (list : List ℕ) : Type 0 where
  pub words : (check_of list).place ≡ length list / 8
  pub few : length list ≤ 32768
  pub whole : rest_of list ≡ []

pub accepted : (list : List ℕ) → (check_of list).number ≡ 0 → Accepted list
accepted list e =
    let a = (check-first list).accepted e in
    record {
      words = a.0;
      few = by-test (ltb 32768 (length list)) (λ t. absurd (a.1 _ _ (too_long (ltb-true _ _ t)))) (λ f. ltb-false _ _ f);
      whole = no_bytes (rest_of list) (λ h. a.1 _ _ (of_commands _ _ (past_end h)));
    }

-- ---- the answer and the memories

module _ (list : List ℕ) (start : ℕ) (m : Memories) where
  abbrev reply : Answer
  reply = draw_answer list start (length m.memory) (length m.texture)

  -- the grounds after the check's
  abbrev later : List (Ground Answer)
  later = texture_ground (length m.texture) ∷ act_grounds start (length m.memory) (acts_of list)

  pub answer-checked : ((check_of list).number ≡ 0 → ⊥) → answer (check_of list).number (check_of list).place ≡ reply
  unfolding draw_answer
  answer-checked h = sym (then-refused (check-first list) later _ h)

  pub answer-texture : (check_of list).number ≡ 0 → (length m.texture ≡ 4096 → ⊥) → answer 16 0 ≡ reply
  unfolding draw_answer
  answer-texture e h =
      let first : first_of later (answer 0 (length list / 8)) ≡ answer 16 0 = rw (ne_eqb _ _ h) in
      sym (then-accepted (check-first list) later _ e ∙ first)

  pub answer-acts :
      (check_of list).number ≡ 0 → length m.texture ≡ 4096 → first_refusal start (length m.memory) (length list / 8) (acts_of list) ≡ reply
  unfolding draw_answer first_refusal
  answer-acts e h =
      let first : first_of later (answer 0 (length list / 8)) ≡ first_of (act_grounds start (length m.memory) (acts_of list)) (answer 0 (length list / 8)) =
      rw (eq-eqb _ _ h) in
      sym (then-accepted (check-first list) later _ e ∙ first)

  -- where drawing accepts, texture memory has its size and no act is refused
  pub accepted-all : reply.number ≡ 0 → (length m.texture ≡ 4096) × ((first_refusal start (length m.memory) (length list / 8) (acts_of list)).number ≡ 0)
  accepted-all z =
      by-test (eqb (check_of list).number 0)
      (λ t.
      let e : (check_of list).number ≡ 0 = eqb-true _ _ t in
      by-test (eqb (length m.texture) 4096)
      (λ s. let h : length m.texture ≡ 4096 = eqb-true _ _ s in (h, ap (λ (a : Answer). a.number) (answer-acts e h) ∙ z))
      (λ s. never 16 (omega arith) (ap (λ (a : Answer). a.number) (answer-texture e (eqb-false _ _ s)) ∙ z)))
      (λ f. absurd (eqb-false _ _ f (ap (λ (a : Answer). a.number) (answer-checked (eqb-false _ _ f)) ∙ z)))

  pub drawn-kept : (r : Answer) → r ≡ reply → (r.number ≡ 0 → ⊥) → m ≡ drawn list start m
  unfolding drawn
  drawn-kept r e h = rw (← e, ne_eqb _ _ h)

  pub drawn-acted : (r : Answer) → r ≡ reply → r.number ≡ 0 → acted_all start (acts_of list) m ≡ drawn list start m
  unfolding drawn
  drawn-acted r e h = rw (← e, eq-eqb _ _ h)

-- ---- the refusals of one act

pub act-numbered : (start len : ℕ) (a : Act) → Among 0 (act_refusals start len a) → ⊥
unfolding act_refusals
act-numbered start len a m = among-gives (λ n. not (eqb n 0)) 0 (act_refusals start len a) tt m

module _ (start len : ℕ) where
  -- a fill rectangle
  module _ (f : FillFields) where
    pub fill-10 : (f.cycle_type ≡ 3 → ⊥) → 10 ≡ act_refusal start len (fill_act f)
    unfolding act_refusals
    fill-10 h = rw (ne_eqb _ _ h)

    module _ (mode : f.cycle_type ≡ 3) where
      pub fill-11 : (f.image.address % 64 ≡ 0 → ⊥) → 11 ≡ act_refusal start len (fill_act f)
      unfolding act_refusals
      fill-11 h = rw (eq-eqb _ _ mode, ne_eqb _ _ h)

      -- whether it is inside memory
      module _ (aligned : f.image.address % 64 ≡ 0) (b : Bool) (is_b : b ≡ not (outside f start len)) where
        outside-is : outside f start len ≡ not b
        outside-is = sym (not-not (outside f start len)) ∙ ap not (sym is_b)

        pub fill-12 : b ≡ false → 12 ≡ act_refusal start len (fill_act f)
        unfolding act_refusals
        fill-12 e = rw (eq-eqb _ _ mode, eq-eqb _ _ aligned, outside-is, e)

        pub fill-0 : b ≡ true → 0 ≡ act_refusal start len (fill_act f)
        unfolding act_refusals
        fill-0 e = rw (eq-eqb _ _ mode, eq-eqb _ _ aligned, outside-is, e)

  -- a texture rectangle
  module _ (c : CopyFields) where
    pub copy-10 : (c.cycle_type ≡ 2 → ⊥) → 10 ≡ act_refusal start len (copy_act c)
    unfolding act_refusals
    copy-10 h = rw (ne_eqb _ _ h)

    module _ (mode : c.cycle_type ≡ 2) where
      pub copy-11 : (c.image.address % 64 ≡ 0 → ⊥) → 11 ≡ act_refusal start len (copy_act c)
      unfolding act_refusals
      copy-11 h = rw (eq-eqb _ _ mode, ne_eqb _ _ h)

      pub copy-others : c.image.address % 64 ≡ 0 → (r : ℕ) → r ≡ copy_refusal c start len → r ≡ act_refusal start len (copy_act c)
      unfolding act_refusals
      copy-others h r e = e ∙ copy-first c start len ∙ rw (eq-eqb _ _ mode, eq-eqb _ _ h)

  -- ---- by the number of the act
  module _ (file list : List ℕ) (at n : ℕ) where
    abbrev refusal : ℕ
    refusal = act_refusal start len (act_with file list at n)

    pub refusal-fill : n ≡ 0x36 → (r : ℕ) (f : FillFields) → f ≡ fill_at file list at → r ≡ act_refusal start len (fill_act f) → r ≡ refusal
    unfolding act_by
    refusal-fill e r f is h = h ∙ ap (λ (x : FillFields). act_refusal start len (fill_act x)) is ∙ rw e

    pub refusal-copy : n ≡ 0x24 → (r : ℕ) (c : CopyFields) → c ≡ copy_at file list at → r ≡ act_refusal start len (copy_act c) → r ≡ refusal
    unfolding act_by
    refusal-copy e r c is h = h ∙ ap (λ (x : CopyFields). act_refusal start len (copy_act x)) is ∙ rw e

    pub refusal-load : n ≡ 0x34 → (r : ℕ) (l : LoadFields) → l ≡ load_at file list at → r ≡ load_refusal l start len → r ≡ refusal
    unfolding act_by act_refusals
    refusal-load e r l is h = h ∙ load-first l start len ∙ ap (λ (x : LoadFields). act_refusal start len (loading x)) is ∙ rw e

    pub refusal-block : n ≡ 0x33 → (r : ℕ) (l : LoadFields) → l ≡ load_at file list at → r ≡ block_refusal l start len → r ≡ refusal
    unfolding act_by act_refusals
    refusal-block e r l is h = h ∙ block-first l start len ∙ ap (λ (x : LoadFields). act_refusal start len (blocking x)) is ∙ rw e

    pub refusal-17 : n ≡ 0x30 → 17 ≡ refusal
    unfolding act_by act_refusals
    refusal-17 e = rw e

    pub refusal-10 : (n ≡ 0x36 → ⊥) → (n ≡ 0x24 → ⊥) → (n ≡ 0x34 → ⊥) → (n ≡ 0x33 → ⊥) → (n ≡ 0x30 → ⊥) → 10 ≡ refusal
    unfolding act_by act_refusals
    refusal-10 a b c d e = rw (ne_eqb _ _ a, ne_eqb _ _ b, ne_eqb _ _ c, ne_eqb _ _ d, ne_eqb _ _ e)

-- ---- an act that is not refused

module _ (start len : ℕ) where
  fill-clear : (f : FillFields) → act_refusal start len (fill_act f) ≡ 0 → (eqb f.cycle_type 3 ≡ true) × (outside f start len ≡ false)
  unfolding act_refusals
  fill-clear f e = by (eqb f.cycle_type 3) e
    where
      by : (b : Bool) → act_refusal start len (cond b (filling f) (other_draw f.image)) ≡ 0 → (b ≡ true) × (outside f start len ≡ false)
      by true h = (refl, false_of _ (first-none (act_refusals start len (filling f)) 0 (act-numbered start len (filling f)) h).1.1.1.0)
      by false h = never 10 (omega arith) h

  copy-clear : (c : CopyFields) → act_refusal start len (copy_act c) ≡ 0 → (eqb c.cycle_type 2 ≡ true) × (copy_refusal c start len ≡ 0)
  unfolding act_refusals
  copy-clear c e = by (eqb c.cycle_type 2) e
    where
      aligned : (b : Bool) (x : ℕ) → cond b 11 x ≡ 0 → x ≡ 0
      aligned true x h = never 11 (omega arith) h
      aligned false x h = h

      by : (b : Bool) → act_refusal start len (cond b (copying c) (other_draw c.image)) ≡ 0 → (b ≡ true) × (copy_refusal c start len ≡ 0)
      by true h = (refl, copy-first c start len ∙ aligned (misaligned c.image) (first_of (copy_refusals c start len) 0) h)
      by false h = never 10 (omega arith) h

-- what an act that is not refused leaves, by its number
module _ (start : ℕ) (memory texture file list : List ℕ) (at n : ℕ) (clear : act_refusal start (length memory) (act_with file list at n) ≡ 0) where
  abbrev left : Memories
  left = acted start (act_with file list at n) (memories memory texture)

  module _ (e : n ≡ 0x36) (f : FillFields) (is : f ≡ fill_at file list at) where
    fill-parts : (eqb f.cycle_type 3 ≡ true) × (outside f start (length memory) ≡ false)
    unfolding act_by
    fill-parts = fill-clear start (length memory) f (ap (λ (x : FillFields). act_refusal start (length memory) (fill_act x)) is ∙ rw e at clear)

    pub fill-left : (m : List ℕ) → m ≡ fill_memory f start memory → memories m texture ≡ left
    unfolding act_by
    fill-left m h =
        let mode : eqb (fill_at file list at).cycle_type 3 ≡ true = rw is at fill-parts.0 in
        let whole : m ≡ painted f start memory = h ∙ ap (λ (b : Bool). cond b memory (painted f start memory)) fill-parts.1 in
        ap (λ (x : List ℕ). memories x texture) (whole ∙ ap (λ (x : FillFields). painted x start memory) is) ∙ rw (e, mode)

  module _ (size : length texture ≡ 4096) where
    module _ (e : n ≡ 0x24) (c : CopyFields) (is : c ≡ copy_at file list at) where
      pub copy-left : (m : List ℕ) → m ≡ copy_memory c start texture memory → memories m texture ≡ left
      unfolding act_by
      copy-left m h =
          let parts = copy-clear start (length memory) (copy_at file list at) (rw e at clear) in
          let mode : eqb (copy_at file list at).cycle_type 2 ≡ true = parts.0 in
          ap (λ (x : List ℕ). memories x texture)
          (h ∙ ap (λ (x : CopyFields). copy_memory x start texture memory) is ∙ copy-leaves start memory texture size (copy_at file list at) parts.1) ∙
          rw (e, mode)

    module _ (l : LoadFields) (is : l ≡ load_at file list at) where
      pub load-left : n ≡ 0x34 → (t : List ℕ) → t ≡ load_texture l start memory texture → memories memory t ≡ left
      unfolding act_by act_refusals
      load-left is-load t h =
          ap (memories memory)
          (h ∙ ap (λ (x : LoadFields). load_texture x start memory texture) is ∙
          load-leaves start memory texture size (load_at file list at) (load-first (load_at file list at) start (length memory) ∙ rw is-load at clear)) ∙
          rw is-load

      -- the number that is left is that of a Load Block
      module _ (not-fill : n ≡ 0x36 → ⊥) (not-copy : n ≡ 0x24 → ⊥) (not-load : n ≡ 0x34 → ⊥) where
        is_block : n ≡ 0x33
        unfolding act_by act_refusals
        is_block =
            by-test (eqb n 0x33) (λ t. eqb-true n 0x33 t)
            (λ f.
            by-test (eqb n 0x30)
            (λ t. never 17 (omega arith) (rw (ne_eqb _ _ not-fill, ne_eqb _ _ not-copy, ne_eqb _ _ not-load, f, t) at clear))
            (λ g. never 10 (omega arith) (rw (ne_eqb _ _ not-fill, ne_eqb _ _ not-copy, ne_eqb _ _ not-load, f, g) at clear)))

        pub block-left : (t : List ℕ) → t ≡ block_texture l start memory texture → memories memory t ≡ left
        unfolding act_by act_refusals
        block-left t h =
            ap (memories memory)
            (h ∙ ap (λ (x : LoadFields). block_texture x start memory texture) is ∙
            block-leaves start memory texture size (load_at file list at)
            (block-first (load_at file list at) start (length memory) ∙ rw is_block at clear)) ∙
            rw is_block

-- the acts after the first
pub first_next :
    (start len words : ℕ) (p : Placed) (acts : List Placed) →
    first_refusal start len words (p ∷ acts) ≡ refused_at (act_refusal start len p.act) p.place (first_refusal start len words acts)
unfolding first_refusal act_grounds
first_next start len words p acts =
    placed_first p.place (act_grounds start len acts) (answer 0 words) (act_refusals start len p.act) (act-numbered start len p.act)

-- ---- the loops over the acts

-- what holds at the head of both: the acts that are due have a property
pub record Going (P : List Placed → Type 0) (list : List ℕ) (words : ℕ) (next : ℕ) (file : List ℕ) : Type 0 where
  pub count : words ≡ length list / 8
  pub acts : List Placed
  pub due : ActsDue list next file acts
  pub holds : P acts

pub going-first :
    (P : List Placed → Type 0) (list : List ℕ) (words : ℕ) → words ≡ length list / 8 → rest_of list ≡ [] → P (acts_of list) →
    Going P list words 0 (replicate 32 0)
going-first P list words e w p = record { count = e; acts = acts_of list; due = start-due list w; holds = p }

module _ {P : List Placed → Type 0} {list : List ℕ} {words : ℕ} {from : ℕ} {file : List ℕ} (t : Going P list words from file) where
  -- there is no act
  going-none : (file' : List ℕ) → Reaches list from file None file' → P []
  going-none file' h = subst P (h _ t.due) t.holds

  module _ {r : Reached} {file' : List ℕ} (h : Reaches list from file (Some r) file') where
    next : Next list r file' t.acts
    next = (h _ t.due).1

    pub inside : r.place + words_of r.number ≤ words
    inside = omega (arith, t.count, next.inside)

    pub before-end : r.place < words
    before-end = omega (arith, inside, next.some)

    abbrev p : Placed
    p = placed_with file' list r.place r.number

    here : P (p ∷ next.others)
    here = subst P next.first t.holds

    module _ (k : ℕ) (is-k : k ≡ words_of r.number) where
      going-again : (Q : List Placed → Type 0) → Q next.others → Going Q list words (r.place + k) file'
      going-again Q q = record { count = t.count; acts = next.others; due = rw is-k next.due; holds = q }

      pub falls : words - (r.place + k) < words - from
      falls = omega (arith, (h _ t.due).0, next.some, inside)

-- ---- the loop that tests

-- the first refusal of some acts is that of the list
abbrev pub Tests : List ℕ → ℕ → ℕ → ℕ → List Placed → Type 0
Tests list start len words acts = first_refusal start len words acts ≡ first_refusal start len words (acts_of list)

module _ {list : List ℕ} (start len : ℕ) {words : ℕ} {from : ℕ} {file : List ℕ} (t : Going (Tests list start len words) list words from file) where
  pub tests-none : (file' : List ℕ) → Reaches list from file None file' → answer 0 words ≡ first_refusal start len words (acts_of list)
  unfolding first_refusal act_grounds
  tests-none file' h = going-none t file' h

  module _ {r : Reached} {file' : List ℕ} (h : Reaches list from file (Some r) file') (g : ℕ) (is : g ≡ act_refusal start len (p t h).act) where
    abbrev onward : Answer
    onward = first_refusal start len words (next t h).others

    unrolled : refused_at g r.place onward ≡ first_refusal start len words (acts_of list)
    unrolled =
        ap (λ (k : ℕ). refused_at k r.place onward) is ∙ sym (first_next start len words (p t h) (next t h).others) ∙ here t h

    pub tests-refused : (g ≡ 0 → ⊥) → answer g r.place ≡ first_refusal start len words (acts_of list)
    tests-refused ne = sym (refused-some g r.place onward ne) ∙ unrolled

    pub tests-again : g ≡ 0 → (k : ℕ) → k ≡ words_of r.number → Going (Tests list start len words) list words (r.place + k) file'
    tests-again e k is-k =
        going-again t h k is-k (Tests list start len words) (ap (λ (j : ℕ). refused_at j r.place onward) (sym e) ∙ unrolled)

-- ---- the loop that acts

-- what some acts make of the memories is what all make of them, and none of them is refused
pub record Does (list : List ℕ) (start words : ℕ) (m₀ m : Memories) (acts : List Placed) : Type 0 where
  pub long : length m.memory ≡ length m₀.memory
  pub long-texture : length m.texture ≡ length m₀.texture
  pub size : length m.texture ≡ 4096
  pub clear : (first_refusal start (length m.memory) words acts).number ≡ 0
  pub same : acted_all start acts m ≡ acted_all start (acts_of list) m₀

module _ {list : List ℕ} {start words : ℕ} {m₀ m : Memories} {from : ℕ} {file : List ℕ} (t : Going (Does list start words m₀ m) list words from file) where
  pub does-none : (file' : List ℕ) → Reaches list from file None file' → m ≡ acted_all start (acts_of list) m₀
  unfolding acted_all
  does-none file' h = (going-none t file' h).same

  module _ {r : Reached} {file' : List ℕ} (h : Reaches list from file (Some r) file') where
    clears :
        (act_refusal start (length m.memory) (p t h).act ≡ 0) ×
        ((first_refusal start (length m.memory) words (next t h).others).number ≡ 0)
    clears =
        refused_none _ r.place _
        (ap (λ (x : Answer). x.number) (sym (first_next start (length m.memory) words (p t h) (next t h).others)) ∙ (here t h).clear)

    pub does-clear : act_refusal start (length m.memory) (act_with file' list r.place r.number) ≡ 0
    does-clear = clears.0

    pub does-size : length m.texture ≡ 4096
    does-size = (here t h).size

    pub does-again :
        (m' : Memories) → m' ≡ acted start (act_with file' list r.place r.number) m → length m'.memory ≡ length m.memory →
        length m'.texture ≡ length m.texture → (k : ℕ) → k ≡ words_of r.number → Going (Does list start words m₀ m') list words (r.place + k) file'
    unfolding acted_all
    does-again m' is_m same_memory same-texture k is-k =
        let q = here t h in
        going-again t h k is-k (Does list start words m₀ m')
        (record {
          long = same_memory ∙ q.long;
          long-texture = same-texture ∙ q.long-texture;
          size = same-texture ∙ q.size;
          clear = rw same_memory clears.1;
          same = ap (acted_all start (next t h).others) is_m ∙ q.same;
        })
