use Rattle.std.proofs.Common.{List, [], ◌∷◌, ◌++◌, ℕ, get_or, rules}
use mir.Val.{bool_byte}
use Rattle.rdp_command.specs.Fields.{unsigned, signed, flag}
use Rattle.rdp_command.specs.declared.TriangleBase.{TriangleBase}
use Rattle.rdp_encode.proofs.TwosLaws.{given}
use Rattle.rdp_encode.proofs.values.triangle_base.Goals as goal

-- the numbers in the order of the layout
abbrev laid : TriangleBase → ℕ → ℕ → ℕ → List ℕ → List ℕ → List ℕ → List ℕ
laid g yl ym yh l h m =
    bool_byte g.shade ∷ bool_byte g.texture ∷ bool_byte g.zbuffer ∷ bool_byte g.lmajor ∷ g.level ∷ g.tile ∷ yl ∷ ym ∷ yh ∷
    get_or l 0 0 ∷ get_or l 1 0 ∷ get_or l 2 0 ∷ get_or l 3 0 ∷ get_or h 0 0 ∷ get_or h 1 0 ∷ get_or h 2 0 ∷ get_or h 3 0 ∷
    get_or m 0 0 ∷ get_or m 1 0 ∷ get_or m 2 0 ∷ get_or m 3 0 ∷ []

pub returns : goal.returns
returns c =
    let g = c.args.g in
    let yl = given g.yl (search rules) c.twos.ensures in
    let ym = given g.ym (search rules) c.twos-2.ensures in
    let yh = given g.yh (search rules) c.twos-3.ensures in
    let l = c.edge-l.ensures in
    let h = c.edge-h.ensures in
    let m = c.edge-m.ensures in (
      λ i. laid g (yl.0 i) (ym.0 i) (yh.0 i) (l.0 i) (h.0 i) (m.0 i),
      λ i.
          flag g.shade ∷ flag g.texture ∷ flag g.zbuffer ∷ flag g.lmajor ∷ unsigned g.level ∷ unsigned g.tile ∷
          signed (yl.1 i) ∷ signed (ym.1 i) ∷ signed (yh.1 i) ∷ (l.1 i ++ (h.1 i ++ m.1 i)),
    )
