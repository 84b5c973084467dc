-- The stack of what is open, with one more on top.
use Rattle.std.proofs.Common.{◌≤◌, ◌≡◌, ℕ, ◌-◌, List, [], ◌∷◌, ◌++◌, length, Option, Some, None, slice_get, ◌<◌, refl, sym, ap, ◌∙◌, arith, rules, append-nil, MatchOption, Vec, Global, vec_len, ◌+◌}
use Rattle.std.specs.Option.{option_to_list}
use Rattle.std.proofs.lemmas.Option.{slice_get-get_or}
use Rattle.pl_grammar.specs.Machine as m
use Rattle.pl_syntax.specs.declared.stack.Frame.{Frame}
use Rattle.pl_grammar.specs.Tree.{arg}
use Rattle.pl_syntax.specs.Plain.{tree_of, args_tree, row_tree}
use Rattle.pl_syntax.specs.Rows.{args_of}
use Rattle.pl_syntax.specs.declared.tree.ArgList.{ArgList, ArgList', Row_of-Arg, end_of-Arg, more_of-Arg, items-the_row-Arg, the_lemmas, roll-ArgList, out-roll-ArgList}
use Rattle.pl_syntax.specs.declared.tree.Arg.{Arg}
use Rattle.pl_syntax.specs.declared.stack.Stack.{Stack}
use Rattle.pl_syntax.specs.Open.{open_in}
use Rattle.pl_syntax.specs.Frames.{args_list, frame_of, frames_onto, frames_of}

onto_push : (xs : List Frame) (x : Frame) (fs : List m.Frame) → frames_onto (xs ++ (x ∷ [])) fs ≡ frame_of x ∷ frames_onto xs fs
unfolding frames_onto
onto_push [] x fs = refl
onto_push (y ∷ xs) x fs = onto_push xs x (frame_of y ∷ fs)

pub frames_push : (xs : List Frame) (x : Frame) → frames_of (xs ++ (x ∷ [])) ≡ frame_of x ∷ frames_of xs
unfolding frames_of
frames_push xs x = onto_push xs x []

pub frames_none : (xs : List Frame) → length xs ≡ 0 → frames_of xs ≡ []
unfolding frames_of frames_onto
frames_none [] h = refl
frames_none (x ∷ xs) h = absurd (omega arith)

-- what the top of the stack asks

some_frame : {x y : Frame} → Some x ≡ Some y → x ≡ y
some_frame h = cc

same_top : (x : Frame) (fs : List m.Frame) → m.asked (frame_of x ∷ fs) ≡ m.asked (frame_of x ∷ [])
same_top x fs = of_frame (frame_of x)
  where
    of_frame : (f : m.Frame) → m.asked (f ∷ fs) ≡ m.asked (f ∷ [])
    of_frame m.Group = refl
    of_frame f = refl

asked_onto : (x : Frame) (xs : List Frame) (y : Frame) (fs : List m.Frame) → slice_get (x ∷ xs) (length xs) ≡ Some y → m.asked (frames_onto (x ∷ xs) fs) ≡ m.asked (frame_of y ∷ [])
unfolding frames_onto
asked_onto x [] y fs h = same_top x fs ∙ ap (λ z. m.asked (frame_of z ∷ [])) (some_frame h)
asked_onto x (z ∷ xs) y fs h = asked_onto z xs y (frame_of x ∷ fs) h

pub asked_top : (xs : List Frame) (y : Frame) → slice_get xs (length xs - 1) ≡ Some y → m.asked (frames_of xs) ≡ m.asked (frame_of y ∷ [])
unfolding frames_of
asked_top [] y h = cc
asked_top (x ∷ xs) y h = let e : length (x ∷ xs) - 1 ≡ length xs = omega arith in asked_onto x xs y [] (ap (slice_get (x ∷ xs)) (sym e) ∙ h)

pub asked_none : (xs : List Frame) → slice_get xs (length xs - 1) ≡ None → m.asked (frames_of xs) ≡ 1
unfolding frames_of frames_onto
asked_none [] h = refl
asked_none (x ∷ xs) h = absurd (past x xs h)
  where
    past : (x : Frame) (xs : List Frame) → slice_get (x ∷ xs) (length (x ∷ xs) - 1) ≡ None → ⊥
    past x xs h = let k : length (x ∷ xs) - 1 < length (x ∷ xs) = omega arith in let e = slice_get-get_or (x ∷ xs) (length (x ∷ xs) - 1) x k in cc

-- an argument list as a tree

pub rows_tree : {k : _} (row : Row_of-Arg k) → row_tree row ≡ m.args_of (args_list (items-the_row-Arg k row))
rows_tree end_of-Arg = refl
rows_tree (more_of-Arg n place e rest) = ap (arg n (tree_of e place)) (rows_tree rest)

pub list_tree : (l : ArgList) → args_tree l ≡ m.args_of (args_list (args_of l))
list_tree (ArgList' shape row) = search (rules, the_lemmas, rows_tree)

pub built_tree : (v : Vec Arg Global) → args_tree (roll-ArgList (record { args = v })) ≡ m.args_of (args_list v.items)
built_tree v = list_tree (roll-ArgList (record { args = v })) ∙ ap (λ (x : List Arg). m.args_of (args_list x)) (ap (λ r. r.args.items) (out-roll-ArgList (record { args = v })))

-- a stack's frames

pub open_push : (s t : Stack) (x : Frame) → t.frames.items ≡ s.frames.items ++ (x ∷ []) → open_in t ≡ frame_of x ∷ open_in s
unfolding open_in
open_push s t x h = ap frames_of h ∙ frames_push s.frames.items x

pub open_pop : (s t : Stack) (r : Option Frame) → s.frames.items ≡ t.frames.items ++ option_to_list r → MatchOption r ((vec_len s.frames ≡ 0) × (vec_len t.frames ≡ 0)) (λ x. vec_len t.frames + 1 ≡ vec_len s.frames) → MatchOption r ((open_in s ≡ []) × (open_in t ≡ [])) (λ x. open_in s ≡ frame_of x ∷ open_in t)
unfolding open_in
open_pop s t (Some x) h k = ap frames_of h ∙ frames_push t.frames.items x
open_pop s t None h k =
    let e : s.frames.items ≡ t.frames.items = h ∙ append-nil t.frames.items in
    let n : open_in s ≡ [] = frames_none s.frames.items (omega (arith, s.frames.ok.0, k.0)) in
    (n, ap frames_of (sym e) ∙ n)

pub open_top : (s : Stack) (xs : List Frame) (y : Frame) → xs ≡ s.frames.items → slice_get xs (length xs - 1) ≡ Some y → m.asked (open_in s) ≡ m.asked (frame_of y ∷ [])
unfolding open_in
open_top s xs y e h = ap (λ z. m.asked (frames_of z)) (sym e) ∙ asked_top xs y h

pub open_none : (s : Stack) (xs : List Frame) → xs ≡ s.frames.items → slice_get xs (length xs - 1) ≡ None → m.asked (open_in s) ≡ 1
unfolding open_in
open_none s xs e h = ap (λ z. m.asked (frames_of z)) (sym e) ∙ asked_none xs h

-- how many are counted

pub depth_push : (f : m.Frame) (fs : List m.Frame) → m.depth (f ∷ fs) ≡ m.depth fs + m.depth (f ∷ [])
depth_push m.Group fs = omega arith
depth_push f fs = omega arith

onto_depth : (xs : List Frame) (fs : List m.Frame) → m.depth (frames_onto xs fs) ≤ length xs + m.depth fs
unfolding frames_onto
onto_depth [] fs = omega arith
onto_depth (x ∷ xs) fs = omega (arith, onto_depth xs (frame_of x ∷ fs), depth_push (frame_of x) fs, one_most (frame_of x))
  where
    one_most : (f : m.Frame) → m.depth (f ∷ []) ≤ 1
    one_most m.Group = omega arith
    one_most f = omega arith

pub depth_most : (xs : List Frame) → m.depth (frames_of xs) ≤ length xs
unfolding frames_of
depth_most xs = omega (arith, onto_depth xs [])

pub depth_after : (xs ys : List Frame) (x : Frame) → ys ≡ xs ++ (x ∷ []) → m.depth (frames_of ys) ≡ m.depth (frames_of xs) + m.depth (frame_of x ∷ [])
depth_after xs ys x h = ap (λ z. m.depth (frames_of z)) h ∙ (ap m.depth (frames_push xs x) ∙ depth_push (frame_of x) (frames_of xs))
