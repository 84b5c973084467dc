use Rattle.std.proofs.Common.{rules, vec_len, ◌^◌, ◌≡◌, ◌∙◌, length, ap, arith}
use Rattle.std.proofs.lemmas.Nat.{mul-le}
use Rattle.pl_spec.specs.Limits.{most_assets}
use Rattle.pl_world.specs.Worlds.{world_of}
use Rattle.pl_terms.specs.Checked.{pipeline_of}
use Rattle.pl_runner.specs.Chunks.{columns_of}
use Rattle.pl_runner.proofs.Assets.{columns_of-few}
use Rattle.pl_runner.proofs.Rooms.{room-of, room-least}
use Rattle.pl_runner.proofs.room.array_of.Goals as goal

pub overflow_mul-result : goal.overflow_mul-result
overflow_mul-result c =
    let few = columns_of-few (world_of c.args.asked.now.world) (pipeline_of c.args.asked.now.checked.now) c.args.asked.now.plan.now c.args.chunk in
    let cols : c.len.result ≡ length (columns_of (world_of c.args.asked.now.world) (pipeline_of c.args.asked.now.checked.now) c.args.asked.now.plan.now c.args.chunk) = (let v : vec_len c.put_columns.new.cols ≡ length c.put_columns.new.cols.items = search rules in c.len.ensures ∙ v) ∙ ap length c.put_columns.ensures.cols in
    let product = mul-le c.len.result c.most_rows.result most_assets (2 ^ 33) (omega (arith, few, cols, c.requires.asked.sound.assets.few)) (omega (arith, c.most_rows.ensures.few)) in
    omega (arith, product)

pub returns-clause-each : goal.returns-clause-each
returns-clause-each c =
    let cols : c.len.result ≡ length (columns_of (world_of c.args.asked.now.world) (pipeline_of c.args.asked.now.checked.now) c.args.asked.now.plan.now c.args.chunk) = (let v : vec_len c.put_columns.new.cols ≡ length c.put_columns.new.cols.items = search rules in c.len.ensures ∙ v) ∙ ap length c.put_columns.ensures.cols in
    room-of c.args.asked.now.world.sessions.now (world_of c.args.asked.now.world) (pipeline_of c.args.asked.now.checked.now) c.args.asked.now.plan.now c.args.chunk c.most_rows.result c.len.result c.requires.asked.plan c.most_rows.ensures.most cols

pub returns-clause-least : goal.returns-clause-least
returns-clause-least c =
    let cols : c.len.result ≡ length (columns_of (world_of c.args.asked.now.world) (pipeline_of c.args.asked.now.checked.now) c.args.asked.now.plan.now c.args.chunk) = (let v : vec_len c.put_columns.new.cols ≡ length c.put_columns.new.cols.items = search rules in c.len.ensures ∙ v) ∙ ap length c.put_columns.ensures.cols in
    λ len h. room-least (world_of c.args.asked.now.world) (pipeline_of c.args.asked.now.checked.now) c.args.asked.now.plan.now c.args.chunk _ c.most_rows.result c.len.result len c.most_rows.ensures.most cols h
