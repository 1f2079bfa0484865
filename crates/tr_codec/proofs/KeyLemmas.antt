-- Nodes are told apart by their bytes.
use Rattle.std.proofs.Common.{◌≡◌, ◌∙◌, refl, sym, ap, subst, ℕ, ◌+◌, ◌<◌, ◌^◌, Bool, true, not, ◌||◌, ◌==◌, cond, List, [], ◌∷◌, ◌++◌, Option, Some, length, map, arith}
use Rattle.std.specs.Int.{w16, w64}
use Rattle.std.specs.Bool.{Decides, one_answer}
use Rattle.std.specs.List.{AllByRecursion, list_any, position_or_len}
use Rattle.std.specs.Cmp.Lexicographic.{bytes_decides}
use Rattle.std.proofs.lemmas.List.{append-nil}
use Rattle.rk_base.specs.Text.{Text, same_text}
use Rattle.rk_base.specs.declared.file_type.FileType.{FileType}
use Rattle.rk_calls.specs.declared.call.Call.{Call}
use Rattle.rk_calls.specs.declared.call.Call.TheVariants as call
use Rattle.rk_calls.specs.declared.answer.Answer.{Answer}
use Rattle.rk_calls.specs.declared.answer.Answer.TheVariants as answer
use Rattle.tr_nodes.specs.Nodes.{Node, same_node}
use Rattle.tr_nodes.proofs.PutLemmas.{node_decides}
use Rattle.tr_record.specs.declared.steps.Step.{Step}
use Rattle.tr_parts.specs.Piece.{Piece, plain, ◌⊕◌, blob, byte, mode, number, counted, has, with_uses}
use Rattle.tr_parts.proofs.AgainLemmas.{again_last, mode_again}
use Rattle.tr_codec.specs.Same.{same_step}
use Rattle.tr_codec.specs.Sound.{TypedCall, TypedAnswer, IsTyped}
use Rattle.tr_codec.specs.Pieces as keys
use Rattle.tr_codec.specs.Spelling.{how_code, call_piece, answer_piece, step_piece, kind_code, flag_code, errno_code}
use Rattle.tr_codec.specs.NodeKeys.{own_piece, key_of, IsKeyed}
use Rattle.tr_codec.specs.Reading.{◌>>=◌, number_at, byte_at, blob_at, flag_at, kind_of, call_of, call_at, answer_of, answer_at}
use Rattle.tr_codec.proofs.ExactLemmas.{some_is}
use Rattle.tr_codec.proofs.PutsLemmas.{stays_used}
use Rattle.tr_codec.proofs.SameLemmas.{step_decides}
use Rattle.tr_codec.proofs.TableAgain.{Covers, both_covered, Back, back_bind, back_number, back_byte, back_blob, back_flag, kind_back, after_kind, back_call, back_answer}

-- ---- lists by their keys

module _ {A B : Type 0} (key : A → B) (s : A → A → Bool) (t : B → B → Bool) where
  keyed_any : (n : A) (xs : List A) → AllByRecursion (λ x. t (key n) (key x) ≡ s n x) xs → list_any (t (key n)) (map key xs) ≡ list_any (s n) xs
  keyed_any n [] h = refl
  keyed_any n (x ∷ xs) h = ap (λ b. b || list_any (t (key n)) (map key xs)) h.0 ∙ ap (λ b. s n x || b) (keyed_any n xs h.1)

  keyed_place : (n : A) (xs : List A) → AllByRecursion (λ x. t (key n) (key x) ≡ s n x) xs → position_or_len (t (key n)) (map key xs) ≡ position_or_len (s n) xs
  keyed_place n [] h = refl
  keyed_place n (x ∷ xs) h =
      ap (λ b. cond (not b) (1 + position_or_len (t (key n)) (map key xs)) 0) h.0 ∙ ap (λ (k : ℕ). cond (not (s n x)) (1 + k) 0) (keyed_place n xs h.1)

-- ---- what bytes tell: steps of these types are read again, whatever their modes

module _ (blobs : List Text) (few : length blobs < 2 ^ 64) where
  any_mode : (n : ℕ) → n < 2 ^ 16 → Back blobs (number_at w16) (mode n) n
  unfolding plain
  any_mode n lt = mode_again n lt

  -- a path and a mode
  any_mode_at : (Text → ℕ → Call) → List ℕ → Option (Call × List ℕ)
  any_mode_at make bytes = blob_at blobs bytes >>= λ path. number_at w16 path.1 >>= λ mode. Some (make path.0 mode.0, mode.1)

  any_mode_back : (make : Text → ℕ → Call) (path : Text) (n : ℕ) → n < 2 ^ 16 → Covers blobs (blob path ⊕ mode n).uses → Back blobs (any_mode_at make) (blob path ⊕ mode n) (make path n)
  unfolding any_mode_at
  any_mode_back make path n lt covered =
      let c = both_covered blobs (blob path) (mode n) covered in
      back_bind blobs (blob_at blobs) (λ path bytes. number_at w16 bytes >>= λ n. Some (make path n.0, n.1)) (blob path) (mode n) path (make path n)
      (back_blob blobs few path c.0)
      (again_last (number_at w16) (make path) ((mode n).spelt blobs) n (any_mode n lt))

  -- what stands after the kind of a call
  any_call_of : ℕ → List ℕ → Option (Call × List ℕ)
  any_call_of kind bytes = cond (kind == 10) (any_mode_at call.Mkdir bytes) (cond (kind == 16) (any_mode_at call.Chmod bytes) (call_of blobs kind bytes))

  any_call : List ℕ → Option (Call × List ℕ)
  any_call bytes = byte_at bytes >>= λ kind. any_call_of kind.0 kind.1

  any_call_back : (kind : ℕ) (p : Piece) (c : Call) → kind < 256 → Back blobs (any_call_of kind) p c → Back blobs any_call (byte kind ⊕ p) c
  unfolding any_call
  any_call_back kind p c lt h = back_bind blobs byte_at any_call_of (byte kind) p kind c (back_byte blobs kind lt) h

  -- a kind with no mode is read as before
  same_call : (kind : ℕ) (p : Piece) (c : Call) → kind < 256 → ((bytes : List ℕ) → any_call_of kind bytes ≡ call_of blobs kind bytes) → Back blobs (call_at blobs) (byte kind ⊕ p) c → Back blobs any_call (byte kind ⊕ p) c
  unfolding any_call call_at ◌⊕◌ plain
  same_call kind p c lt e back rest small =
      let bytes = p.spelt blobs ++ rest in
      let read = back_byte blobs kind lt bytes small in
      let one : Option (ℕ × List ℕ) → Option (Call × List ℕ) = λ o. o >>= λ kind. any_call_of kind.0 kind.1 in
      let other : Option (ℕ × List ℕ) → Option (Call × List ℕ) = λ o. o >>= λ kind. call_of blobs kind.0 kind.1 in
      ap one read ∙ e bytes ∙ sym (ap other read) ∙ back rest small

  pipe_back : Back blobs any_call (byte 17) call.Pipe
  unfolding any_call any_call_of
  pipe_back rest small =
      let next : Option (ℕ × List ℕ) → Option (Call × List ℕ) = λ o. o >>= λ kind. any_call_of kind.0 kind.1 in
      ap next (back_byte blobs 17 (omega arith) rest small)

  typed_call : (c : Call) → TypedCall c → Covers blobs (call_piece c).uses → Back blobs any_call (call_piece c) c
  unfolding any_call_of
  typed_call (call.Open path how) t covered = same_call 1 (blob path ⊕ byte (how_code how)) (call.Open path how) (omega arith) (λ bytes. refl) (back_call blobs few (call.Open path how) t covered)
  typed_call (call.Read r) t covered = same_call 2 (number r) (call.Read r) (omega arith) (λ bytes. refl) (back_call blobs few (call.Read r) t covered)
  typed_call (call.ReadLine r) t covered = same_call 3 (number r) (call.ReadLine r) (omega arith) (λ bytes. refl) (back_call blobs few (call.ReadLine r) t covered)
  typed_call (call.Write r text) t covered = same_call 4 (number r ⊕ blob text) (call.Write r text) (omega arith) (λ bytes. refl) (back_call blobs few (call.Write r text) t covered)
  typed_call (call.Stat path follow) t covered = same_call 5 (blob path ⊕ byte (flag_code follow)) (call.Stat path follow) (omega arith) (λ bytes. refl) (back_call blobs few (call.Stat path follow) t covered)
  typed_call (call.List path) t covered = same_call 6 (blob path) (call.List path) (omega arith) (λ bytes. refl) (back_call blobs few (call.List path) t covered)
  typed_call (call.ReadLink path) t covered = same_call 7 (blob path) (call.ReadLink path) (omega arith) (λ bytes. refl) (back_call blobs few (call.ReadLink path) t covered)
  typed_call (call.Walk path) t covered = same_call 8 (blob path) (call.Walk path) (omega arith) (λ bytes. refl) (back_call blobs few (call.Walk path) t covered)
  typed_call (call.Same a b) t covered = same_call 9 (blob a ⊕ blob b) (call.Same a b) (omega arith) (λ bytes. refl) (back_call blobs few (call.Same a b) t covered)
  typed_call (call.Mkdir path n) t covered = any_call_back 10 (blob path ⊕ mode n) (call.Mkdir path n) (omega arith) (any_mode_back call.Mkdir path n t (after_kind blobs few 10 (blob path ⊕ mode n) covered))
  typed_call (call.Rmdir path) t covered = same_call 11 (blob path) (call.Rmdir path) (omega arith) (λ bytes. refl) (back_call blobs few (call.Rmdir path) t covered)
  typed_call (call.Unlink path) t covered = same_call 12 (blob path) (call.Unlink path) (omega arith) (λ bytes. refl) (back_call blobs few (call.Unlink path) t covered)
  typed_call (call.Rename a b) t covered = same_call 13 (blob a ⊕ blob b) (call.Rename a b) (omega arith) (λ bytes. refl) (back_call blobs few (call.Rename a b) t covered)
  typed_call (call.Symlink text path) t covered = same_call 14 (blob text ⊕ blob path) (call.Symlink text path) (omega arith) (λ bytes. refl) (back_call blobs few (call.Symlink text path) t covered)
  typed_call (call.Link a b) t covered = same_call 15 (blob a ⊕ blob b) (call.Link a b) (omega arith) (λ bytes. refl) (back_call blobs few (call.Link a b) t covered)
  typed_call (call.Chmod path n) t covered = any_call_back 16 (blob path ⊕ mode n) (call.Chmod path n) (omega arith) (any_mode_back call.Chmod path n t (after_kind blobs few 16 (blob path ⊕ mode n) covered))
  typed_call call.Pipe t covered = pipe_back
  typed_call (call.Launch key map) t covered = same_call 18 (keys.key_piece key ⊕ counted keys.pair_piece map) (call.Launch key map) (omega arith) (λ bytes. refl) (back_call blobs few (call.Launch key map) t covered)

  -- what stands after the kind of an answer
  any_found_at : List ℕ → Option (Answer × List ℕ)
  any_found_at bytes = byte_at bytes >>= λ code. kind_of code.0 >>= λ kind. number_at w16 code.1 >>= λ mode. flag_at mode.1 >>= λ empty. Some (answer.Stat kind mode.0 empty.0, empty.1)

  any_answer_of : ℕ → List ℕ → Option (Answer × List ℕ)
  any_answer_of kind bytes = cond (kind == 0) (Some (answer.Go, bytes)) (cond (kind == 5) (any_found_at bytes) (answer_of blobs kind bytes))

  any_answer : List ℕ → Option (Answer × List ℕ)
  any_answer bytes = byte_at bytes >>= λ kind. any_answer_of kind.0 kind.1

  any_answer_back : (kind : ℕ) (p : Piece) (a : Answer) → kind < 256 → Back blobs (any_answer_of kind) p a → Back blobs any_answer (byte kind ⊕ p) a
  unfolding any_answer
  any_answer_back kind p a lt h = back_bind blobs byte_at any_answer_of (byte kind) p kind a (back_byte blobs kind lt) h

  same_answer : (kind : ℕ) (p : Piece) (a : Answer) → kind < 256 → ((bytes : List ℕ) → any_answer_of kind bytes ≡ answer_of blobs kind bytes) → Back blobs (answer_at blobs) (byte kind ⊕ p) a → Back blobs any_answer (byte kind ⊕ p) a
  unfolding any_answer answer_at ◌⊕◌ plain
  same_answer kind p a lt e back rest small =
      let bytes = p.spelt blobs ++ rest in
      let read = back_byte blobs kind lt bytes small in
      let one : Option (ℕ × List ℕ) → Option (Answer × List ℕ) = λ o. o >>= λ kind. any_answer_of kind.0 kind.1 in
      let other : Option (ℕ × List ℕ) → Option (Answer × List ℕ) = λ o. o >>= λ kind. answer_of blobs kind.0 kind.1 in
      ap one read ∙ e bytes ∙ sym (ap other read) ∙ back rest small

  -- a kind alone
  kind_alone : (kind : ℕ) (a : Answer) → kind < 256 → ((rest : List ℕ) → any_answer_of kind rest ≡ Some (a, rest)) → Back blobs any_answer (byte kind) a
  unfolding any_answer
  kind_alone kind a lt e rest small =
      let next : Option (ℕ × List ℕ) → Option (Answer × List ℕ) = λ o. o >>= λ kind. any_answer_of kind.0 kind.1 in
      ap next (back_byte blobs kind lt rest small) ∙ e rest

  any_found_back : (k : FileType) (n : ℕ) (empty : Bool) → n < 2 ^ 16 → Back blobs any_found_at (byte (kind_code k) ⊕ mode n ⊕ byte (flag_code empty)) (answer.Stat k n empty)
  unfolding any_found_at
  any_found_back k n empty lt =
      let later : Back blobs (λ bytes. number_at w16 bytes >>= λ n. flag_at n.1 >>= λ empty. Some (answer.Stat k n.0 empty.0, empty.1)) (mode n ⊕ byte (flag_code empty)) (answer.Stat k n empty) =
      back_bind blobs (number_at w16) (λ n bytes. flag_at bytes >>= λ empty. Some (answer.Stat k n empty.0, empty.1)) (mode n) (byte (flag_code empty)) n (answer.Stat k n empty)
      (any_mode n lt)
      (again_last flag_at (answer.Stat k n) ((byte (flag_code empty)).spelt blobs) empty (back_flag blobs empty))
      in
      let known : Back blobs (λ bytes. kind_of (kind_code k) >>= λ k. number_at w16 bytes >>= λ n. flag_at n.1 >>= λ empty. Some (answer.Stat k n.0 empty.0, empty.1)) (mode n ⊕ byte (flag_code empty)) (answer.Stat k n empty) =
      rw (kind_back blobs few k).1 later
      in
      back_bind blobs byte_at (λ code bytes. kind_of code >>= λ k. number_at w16 bytes >>= λ n. flag_at n.1 >>= λ empty. Some (answer.Stat k n.0 empty.0, empty.1)) (byte (kind_code k)) (mode n ⊕ byte (flag_code empty)) (kind_code k) (answer.Stat k n empty)
      (back_byte blobs (kind_code k) (kind_back blobs few k).0) known

  typed_answer : (a : Answer) → TypedAnswer a → Covers blobs (answer_piece a).uses → Back blobs any_answer (answer_piece a) a
  unfolding any_answer_of
  typed_answer answer.Go t covered = kind_alone 0 answer.Go (omega arith) (λ rest. refl)
  typed_answer answer.Done t covered = kind_alone 1 answer.Done (omega arith) (λ rest. refl)
  typed_answer answer.Opened t covered = kind_alone 2 answer.Opened (omega arith) (λ rest. refl)
  typed_answer answer.Piped t covered = kind_alone 3 answer.Piped (omega arith) (λ rest. refl)
  typed_answer (answer.Content text) t covered = same_answer 4 (blob text) (answer.Content text) (omega arith) (λ bytes. refl) (back_answer blobs few (answer.Content text) t covered)
  typed_answer (answer.Stat k n empty) t covered = any_answer_back 5 (byte (kind_code k) ⊕ mode n ⊕ byte (flag_code empty)) (answer.Stat k n empty) (omega arith) (any_found_back k n empty t)
  typed_answer (answer.Names names) t covered = same_answer 6 (counted blob names) (answer.Names names) (omega arith) (λ bytes. refl) (back_answer blobs few (answer.Names names) t covered)
  typed_answer (answer.Text text) t covered = same_answer 7 (blob text) (answer.Text text) (omega arith) (λ bytes. refl) (back_answer blobs few (answer.Text text) t covered)
  typed_answer (answer.Place path) t covered = same_answer 8 (blob path) (answer.Place path) (omega arith) (λ bytes. refl) (back_answer blobs few (answer.Place path) t covered)
  typed_answer (answer.Same same) t covered = same_answer 9 (byte (flag_code same)) (answer.Same same) (omega arith) (λ bytes. refl) (back_answer blobs few (answer.Same same) t covered)
  typed_answer (answer.Joined status) t covered = same_answer 10 (byte status) (answer.Joined status) (omega arith) (λ bytes. refl) (back_answer blobs few (answer.Joined status) t covered)
  typed_answer (answer.No errno) t covered = same_answer 11 (byte (errno_code errno)) (answer.No errno) (omega arith) (λ bytes. refl) (back_answer blobs few (answer.No errno) t covered)

  any_step : List ℕ → Option (Step × List ℕ)
  any_step bytes = number_at w64 bytes >>= λ cost. any_call cost.1 >>= λ asked. any_answer asked.1 >>= λ told. Some (record { cost = cost.0; call = asked.0; answer = told.0 }, told.1)

  typed_step : (step : Step) → IsTyped step → Covers blobs (step_piece step).uses → Back blobs any_step (step_piece step) step
  unfolding any_step
  typed_step step t covered =
      let c = both_covered blobs (number step.cost) (call_piece step.call ⊕ answer_piece step.answer) covered in
      let d = both_covered blobs (call_piece step.call) (answer_piece step.answer) c.1 in
      back_bind blobs (number_at w64) (λ cost bytes. any_call bytes >>= λ call. any_answer call.1 >>= λ answer. Some (record { cost = cost; call = call.0; answer = answer.0 }, answer.1))
      (number step.cost) (call_piece step.call ⊕ answer_piece step.answer) step.cost step
      (back_number blobs step.cost t.cost)
      (back_bind blobs any_call (λ call bytes. any_answer bytes >>= λ answer. Some (record { cost = step.cost; call = call; answer = answer.0 }, answer.1))
      (call_piece step.call) (answer_piece step.answer) step.call step
      (typed_call step.call t.call d.0)
      (again_last any_answer (λ answer. let it : Step = record { cost = step.cost; call = step.call; answer = answer } in it) ((answer_piece step.answer).spelt blobs) step.answer (typed_answer step.answer t.answer d.1)))

  -- a node, read alone
  node_from : List ℕ → Option (Node Step × List ℕ)
  node_from bytes = number_at w64 bytes >>= λ next. any_step next.1 >>= λ step. Some (record { next = next.0; step = step.0 }, step.1)

  key_back : (node : Node Step) → IsKeyed blobs node → node_from (key_of blobs node) ≡ Some (node, [])
  unfolding node_from
  key_back node is =
      let c = both_covered blobs (number node.next) (step_piece node.step) is.covered in
      let back : Back blobs (λ bytes. number_at w64 bytes >>= λ next. any_step next.1 >>= λ step. Some (record { next = next.0; step = step.0 }, step.1)) (own_piece node) node =
      back_bind blobs (number_at w64) (λ next bytes. any_step bytes >>= λ step. Some (record { next = next; step = step.0 }, step.1)) (number node.next) (step_piece node.step) node.next node
      (back_number blobs node.next is.next)
      (again_last any_step (λ step. let it : Node Step = record { next = node.next; step = step } in it) ((step_piece node.step).spelt blobs) node.step (typed_step node.step is.typed c.1))
      in
      let bytes = key_of blobs node in
      let whole : length (bytes ++ []) < 2 ^ 64 = subst (λ (l : List ℕ). length l < 2 ^ 64) (sym (append-nil bytes)) is.few in
      let read : List ℕ → Option (Node Step × List ℕ) = λ bytes. number_at w64 bytes >>= λ next. any_step next.1 >>= λ step. Some (record { next = next.0; step = step.0 }, step.1) in
      ap read (sym (append-nil bytes)) ∙ back [] whole

  key_decides : (a b : Node Step) → IsKeyed blobs a → IsKeyed blobs b → Decides (same_text (key_of blobs a) (key_of blobs b)) (a ≡ b)
  key_decides a b p q = (
    λ h.
        let e = (bytes_decides (key_of blobs a) (key_of blobs b)).0 h in
        let one : Node Step × List ℕ = (a, []) in
        let other : Node Step × List ℕ = (b, []) in
        ap (λ (r : Node Step × List ℕ). r.0) (some_is one other (sym (key_back a p) ∙ ap node_from e ∙ key_back b q)),
    λ e. (bytes_decides (key_of blobs a) (key_of blobs b)).1 (ap (key_of blobs) e),
  )

  agree : (node : Node Step) (nodes : List (Node Step)) → IsKeyed blobs node → AllByRecursion (IsKeyed blobs) nodes → AllByRecursion (λ x. same_text (key_of blobs node) (key_of blobs x) ≡ same_node same_step node x) nodes
  agree node [] p h = tt
  agree node (x ∷ xs) p h =
      (one_answer (same_text (key_of blobs node) (key_of blobs x)) (same_node same_step node x) (key_decides node x p h.0) (node_decides same_step step_decides node x), agree node xs p h.1)

  pub by_bytes : (node : Node Step) (nodes : List (Node Step)) → IsKeyed blobs node → AllByRecursion (IsKeyed blobs) nodes
      → (list_any (same_text (key_of blobs node)) (map (key_of blobs) nodes) ≡ list_any (same_node same_step node) nodes)
      × (position_or_len (same_text (key_of blobs node)) (map (key_of blobs) nodes) ≡ position_or_len (same_node same_step node) nodes)
  by_bytes node nodes p h =
      let all = agree node nodes p h in
      (keyed_any (key_of blobs) (same_node same_step) same_text node nodes all, keyed_place (key_of blobs) (same_node same_step) same_text node nodes all)

-- ---- texts that have blobs

pub adds_none : (blobs texts : List Text) → AllByRecursion (λ text. has blobs text ≡ true) texts → with_uses blobs texts ≡ blobs
adds_none blobs [] h = refl
adds_none blobs (text ∷ texts) h = ap (λ l. with_uses l texts) (stays_used blobs text h.0) ∙ adds_none blobs texts h.1
