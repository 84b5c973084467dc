use Rattle.std.proofs.Common.{◌≡◌, ◌<◌, ◌≤◌, ◌++◌, ◌∷◌, [], ◌∙◌, ℕ, None, Some, pos, map, length, ap, refl, arith, rules, w64, FitsSigned}
use Rattle.pl_spec.specs.Rounding.{IsCell}
use Rattle.pl_spec.specs.World.{exists, living_sids}
use Rattle.pl_spec.proofs.Columns.{no_asset, sid-there}
use Rattle.pl_derivation.specs.Facts.Fact.{TermValue}
use Rattle.pl_world.specs.Worlds.{world_of}
use Rattle.pl_world.specs.Evaluations.{cell_in, row_in}
use Rattle.pl_world.proofs.Windowing.{all-more, row-more, row-all}
use Rattle.pl_world.proofs.Sections.{all_there}
use Rattle.pl_explain.specs.Given.{has_all, living_facts, sid_in}
use Rattle.pl_explain.proofs.Given.{got, lacked, refused, accepted}
use Rattle.pl_explain.proofs.Entries.{living-stated, living-lacks, next-place}
use Rattle.pl_explain.proofs.sections.row_stated.Goals as goal

pub returns-in-None : goal.returns-in-None
returns-in-None c =
    let b = c.args.basis.now in
    let d = pos c.args.session in
    let col = c.loop-col.col in
    let facts = map (λ (a : ℕ). TermValue c.args.u.0 a d) in
    let inside : col < length b.world.assets.now = omega (arith, c.loop-col-test.true, c.len-col-end.ensures.length) in
    let lacks = living-lacks b.stated.now (λ a. exists (world_of b.world) a d) (λ a. TermValue c.args.u.0 a d) b.world.assets.now col inside (lacked b.stated.now None c.in-None.ensures refl) in
    refused b.stated.now _ (facts (living_sids (world_of b.world) d)) (row_in b.world b.checked.now c.args.u.0 c.args.session) None (ap facts (all_there (world_of b.world) c.args.session c.requires.on.ready.assets.ascend)) lacks refl

pub loop-col-preserved : goal.loop-col-preserved
loop-col-preserved c =
    let b = c.args.basis.now in
    let s = c.args.session in
    let col = c.loop-col.col in
    let cell = λ (a : ℕ). cell_in b.world b.checked.now c.args.u.0 a s in
    let inside : col < length b.world.assets.now = omega (arith, c.loop-col-test.true, c.len-col-end.ensures.length) in
    let so_far = c.loop-col.invariant in
    let fits : FitsSigned w64 c.in-Some.cell = search rules in
    let one = got b.stated.now (Some c.in-Some.cell) c.in-Some.cell c.in-Some.ensures refl in
    let pushed : c.push.new.self.items ≡ c.loop-col.row.items ++ c.in-Some.cell ∷ [] = search rules in
    record {
      cells = row-more (λ a. cell a.sid) (λ a. 0) b.world.assets.now col no_asset inside c.loop-col.row.items c.push.new.self.items c.in-Some.cell pushed so_far.cells (one.1 ∙ ap cell (sid-there b.world.assets.now col inside));
      all = all-more IsCell c.loop-col.row.items c.push.new.self.items c.in-Some.cell pushed so_far.all one.2;
      stated = next-place (λ i. has_all b.stated.now (living_facts (world_of b.world) c.args.u.0 (sid_in b i) (pos s))) col so_far.stated one.0;
    }

pub returns : goal.returns
returns c =
    let b = c.args.basis.now in
    let s = c.args.session in
    let d = pos c.args.session in
    let facts = map (λ (a : ℕ). TermValue c.args.u.0 a d) in
    let end : length b.world.assets.now ≤ c.loop-col.col = omega (arith, c.loop-col-test.false, c.len-col-end.ensures.length) in
    let all = living-stated b.stated.now (λ a. exists (world_of b.world) a d) (λ a. TermValue c.args.u.0 a d) b.world.assets.now (λ i l. c.loop-col.invariant.stated i (omega (arith, l, end))) in
    accepted b.stated.now _ (facts (living_sids (world_of b.world) d)) (row_in b.world b.checked.now c.args.u.0 s) c.loop-col.row.items (ap facts (all_there (world_of b.world) s c.requires.on.ready.assets.ascend)) all
    (row-all (λ a. cell_in b.world b.checked.now c.args.u.0 a.sid s) b.world.assets.now c.loop-col.col c.loop-col.row.items end c.loop-col.invariant.cells) c.loop-col.invariant.all
