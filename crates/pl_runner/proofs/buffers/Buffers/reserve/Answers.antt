use Rattle.std.proofs.Common.{◌≡◌, ◌<◌, ℕ, length, sym, ap, subst, ◌∙◌, arith}
use Rattle.std.proofs.lemmas.List.{length-replicate, get_or-replicate}
use Rattle.pl_workspace.specs.Slots.{Slots, Free, Begun, fresh, slot_at}
use Rattle.pl_world.specs.Worlds.{world_of}
use Rattle.pl_terms.specs.Checked.{pipeline_of}
use Rattle.pl_terms.proofs.Graphs.{columns-long}
use Rattle.pl_table.specs.Tiles.{tile_len}
use Rattle.pl_runner.specs.Chunks.{chunk_at}
use Rattle.pl_runner.specs.Room.{HasRoom}
use Rattle.pl_runner.proofs.buffers.Buffers.reserve.Goals as goal

fresh-many : (w : Slots) (n len : ℕ) → w ≡ fresh n len → length w.slots ≡ n
fresh-many w n len is = rw is (length-replicate n Free)

fresh-free : (w : Slots) (n len : ℕ) → w ≡ fresh n len → (s : ℕ) → s < length w.slots → slot_at w s ≡ Free
fresh-free w n len is s h = ap (λ (v : Slots). slot_at v s) is ∙ get_or-replicate n s Free Begun (omega (arith, h, fresh-many w n len is))

pub tile_len-requires-clause-columns : goal.tile_len-requires-clause-columns
tile_len-requires-clause-columns c = omega (arith, c.columns.ensures, columns-long c.args.asked.now.checked.now.columns, c.requires.asked.checked.few_columns)

pub returns-clause-buffers : goal.returns-clause-buffers
returns-clause-buffers c i h =
    let is = c.in-Ok.ensures in
    let len : c.in-Ok.workspace.len ≡ c.longest_array-longest.result = ap (λ (w : Slots). w.len) is in
    let columns = c.columns.ensures ∙ sym (columns-long c.args.asked.now.checked.now.columns) in
    let wide = c.tile_len.ensures ∙ ap (λ (n : ℕ). tile_len n c.columns.result) c.len-assets.ensures.length ∙ ap (tile_len (length c.args.asked.now.world.assets.now)) columns in
    record {
      room = subst (λ (n : ℕ). HasRoom (world_of c.args.asked.now.world) (pipeline_of c.args.asked.now.checked.now) c.args.asked.now.plan.now (chunk_at c.args.asked.now.plan.now.from c.args.asked.now.plan.now.to c.args.size i) n) (sym len) (c.longest_array-longest.ensures.each i h);
      slots = omega (arith, fresh-many c.in-Ok.workspace c.bound.result c.longest_array-longest.result is, c.bound.ensures.value);
      free = fresh-free c.in-Ok.workspace c.bound.result c.longest_array-longest.result is;
      cross = omega (arith, c.in_ok-reserve.ensures, c.len-assets.ensures.length);
      rows = omega (arith, c.in_ok-reserve-2.ensures, c.len-assets.ensures.length);
      cols = omega (arith, c.longest_array-longest.ensures.room, c.in_ok-cols.ensures.capacity, c.len-assets.ensures.length);
      tile = omega (arith, wide, c.in_ok-vec.ensures.len);
    }

pub returns-clause-least : goal.returns-clause-least
returns-clause-least c =
    let is = c.in-Ok.ensures in
    let len : c.in-Ok.workspace.len ≡ c.longest_array-longest.result = ap (λ (w : Slots). w.len) is in
    let columns = c.columns.ensures ∙ sym (columns-long c.args.asked.now.checked.now.columns) in
    let wide = c.tile_len.ensures ∙ ap (λ (n : ℕ). tile_len n c.columns.result) c.len-assets.ensures.length ∙ ap (tile_len (length c.args.asked.now.world.assets.now)) columns in
    record {
      slots = fresh-many c.in-Ok.workspace c.bound.result c.longest_array-longest.result is ∙ c.bound.ensures.value;
      cells = λ most room. (let own = c.longest_array-longest.ensures.least most room in omega (arith, own, len));
      tile = omega (arith, wide, c.in_ok-vec.ensures.len);
    }
