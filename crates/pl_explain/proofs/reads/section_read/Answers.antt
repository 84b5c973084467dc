use Rattle.std.proofs.Common.{◌≡◌, ◌<◌, ◌≤◌, ◌++◌, ◌∙◌, ap, sym, true, false, pos, map, take, length, flat_map, arith}
use Rattle.pl_spec.specs.Parts.{sid_at}
use Rattle.pl_spec.specs.World.{exists}
use Rattle.pl_terms.specs.Checked.{pipeline_of}
use Rattle.pl_terms.specs.Nodes.{node_of}
use Rattle.pl_derivation.specs.Facts.{entry_facts}
use Rattle.pl_explain.specs.Keys.{fact_of}
use Rattle.pl_world.specs.Worlds.{world_of}
use Rattle.pl_world.proofs.Evaluated.{sid-of}
use Rattle.pl_world.proofs.Sections.{all_there}
use Rattle.pl_explain.proofs.Behind.{entries_of, entry-none, entry-more, entries-all}
use Rattle.pl_explain.proofs.reads.section_read.Goals.{then-exists+in_ok-put_entry, else-exists}
use Rattle.pl_explain.proofs.reads.section_read.Goals as goal

pub loop-col-preserved : goal.loop-col-preserved
loop-col-preserved c =
    let w = c.args.world.now in
    let s = c.args.session in
    let i = c.loop-col.col in
    let g = entry_facts (pipeline_of c.args.checked.now).graph (node_of c.args.node.now) (pos s) in
    let inside : i < length w.assets.now = omega (arith, c.loop-col-test.true, c.len-col-end.ensures.length) in
    let so_far = c.loop-col.invariant in
    record {
      to = omega (arith, inside);
      facts = elim c.if-exists.branch [
        | then-exists+in_ok-put_entry b ↦
            (let there : exists (world_of w) (sid_at w.assets.now i) (pos s) ≡ true = sym c.exists.ensures.value ∙ b.if-exists.true in
            ap (λ v. map fact_of v.items) b.facts-is
            ∙ b.in_ok-put_entry.ensures
            ∙ ap (λ fs. fs ++ g b.sid.result) so_far.facts
            ∙ ap (λ a. entries_of g (λ a. exists (world_of w) a (pos s)) w.assets.now (take i w.assets.now) ++ g a) (sid-of w.assets.now i b.sid.result b.sid.ensures)
            ∙ sym (entry-more g (λ a. exists (world_of w) a (pos s)) w.assets.now i inside there))
        | else-exists b ↦
            (let gone : exists (world_of w) (sid_at w.assets.now i) (pos s) ≡ false = sym c.exists.ensures.value ∙ b.if-exists.false in
            ap (λ v. map fact_of v.items) b.facts-is
            ∙ so_far.facts
            ∙ sym (entry-none g (λ a. exists (world_of w) a (pos s)) w.assets.now i inside gone))
      ];
    }

pub returns : goal.returns
returns c =
    let w = c.args.world.now in
    let s = c.args.session in
    let i = c.loop-col.col in
    let g = entry_facts (pipeline_of c.args.checked.now).graph (node_of c.args.node.now) (pos s) in
    let end : length w.assets.now ≤ i = omega (arith, c.loop-col-test.false, c.len-col-end.ensures.length) in
    c.loop-col.invariant.facts
    ∙ entries-all g (λ a. exists (world_of w) a (pos s)) w.assets.now i end
    ∙ ap (flat_map g) (sym (all_there (world_of w) s c.len-col-end.ensures.assets.ascend))
