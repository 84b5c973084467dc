-- What the walks of the logs cite.
pub use Rattle.std.proofs.Common.{ℕ, List, [], ◌∷◌, refl, MutBor, ◌<◌, ◌^◌, length}
pub use seplogic.Ra.Ura.{Ura}
pub use mir.Syntax.{named}
pub use mir.Val.{Val, vunit, vptr, vbool, vstruct, vnil}
pub use base.Logic.{SProp, ent, sep, emp, via, fst∗, id⊢}
pub use base.Fml.{Fml, GName, Lft, Share, ftrue, flft, fobs, fbor}
pub use prog.Memory.{Memory}
pub use prog.Routine.{Routine}
pub use prog.Wp.{Calls, Loops, WpFn, Tables}
pub use types.Logic.{Logic}
pub use contract.Monad.{Fun}
pub use contract.Running.{tables}
pub use types.Kit.{‵, raw, ◌⊛◌, ◌$◌, ◌∵◌, !, qed, by, move, keep, drop, use1, split, join, fsplit, fsplit3, fjoin, fjoin3, feq_i, suffices, frame, done}
pub use types.Run.{unit_lit, of_opd, no_more, returns, enter}
pub use types.Part.{agg}
pub use types.SemTy.{Body}
pub use types.ByLocal.{alloc_all, pass_all, free_all, look_at, sets}
pub use sound.WpLaws.{WpFn-mono}
pub use denote.RattleType.{owns}
pub use denote.Memory.{mem}
pub use denote.Shadow.{pure_i}
pub use denote.Ref.{Bor, MutRef, ShrRef, mut_vals, mut_Tells, shr_vals, shr_Tells}
pub use denote.Builtin.{u8, bool}
pub use denote.Exit.{yes}
pub use denote.Plain.{bool_vals, bool_Tells}
pub use denote.Slice.{ShrSlice, slice_val, shr_slice_vals, shr_slice_Tells}
pub use denote.Signature.{plain}
pub use denote.Steps.{opens, closes}
pub use denote.Triple.Entry.{on_entry, alive}
pub use denote.Triple.Spec.{Meets, triple_of}
pub use denote.Triple.Table.{entered}
pub use denote.Triple.Walked.{says, Stays, stay_ref, stay_none, stay_none_ref, stay_none_slice, walk_of, AllGo, Goes-ref, Goes-none, Goes-none_ref, Goes-none_slice, Walks, ends_at, walked, walk_Meets}
unfoldable pub use contract.Running.{tables_of}
