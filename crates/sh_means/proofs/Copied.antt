-- Copies of the state, and its functions by name.
use Rattle.std.proofs.Common.{◌≡◌, ◌⊎◌, inl, inr, ℕ, List, [], ◌∷◌, Bool, true, false, cond, Option, Some, option_map, refl, sym, ap, ◌∙◌, vec_len}
use Rattle.std.specs.BTreeMap.{is_at, insert_entry}
use Rattle.std.specs.FinMap.{empty, get, insert}
use Rattle.std.specs.List.{AllZip, each_same}
use Rattle.std.specs.Map.{lookup}
use Rattle.std.specs.Ordering.{match_ordering}
use Rattle.std.specs.declared.cmp.Ordering.{Ordering}
use Rattle.std.specs.declared.cmp.Ordering.TheVariants.{Less, Equal, Greater}
use Rattle.rk_base.specs.Text.{Text, text_cmp}
use Rattle.sh_vars.specs.Held.{Held}
use Rattle.sh_vars.specs.Rows.{named, map_of}
use Rattle.sh_vars.proofs.NameMap.{Key, against, by_items, get_named, new_is, put_is}
use Rattle.sh_redirect.specs.declared.descriptors.DescriptorTable.{DescriptorTable}
use Rattle.sh_means.specs.declared.functions.Functions as code
use Rattle.sh_means.specs.declared.state.Callee.{Callee}
use Rattle.sh_means.specs.declared.state.State.{State}
use Rattle.sh_means.specs.State.{FunctionTree, Functions, Shell, back}
use Rattle.sh_means.specs.Views.{shell_of, function_of, functions_of, callees}

-- Functions by name.

pub none_defined : (rows : List (Key × Callee)) → rows ≡ [] → map_of (named (callees rows)) ≡ empty
none_defined rows none = new_is (callees rows) (ap (λ (r : List (Key × Callee)). callees r) none)

found_or : (b : Bool) (c : Callee) (f : Option FunctionTree) (o : Option Callee) → f ≡ option_map function_of o → cond b (Some (function_of c)) f ≡ option_map function_of (cond b (Some c) o)
found_or true c f o h = refl
found_or false c f o h = h

found : (rows : List (Key × Callee)) (name : Text) → lookup (is_at (against name)) (callees rows) ≡ option_map function_of (lookup (is_at (against name)) rows)
found [] name = refl
found (row ∷ rows) name = found_or (is_at (against name) row.0) row.1 (lookup (is_at (against name)) (callees rows)) (lookup (is_at (against name)) rows) (found rows name)

-- the function of a name
pub callee_found : (rows : List (Key × Callee)) (name : Text) (o : Option Callee) → o ≡ lookup (is_at (against name)) rows → option_map function_of o ≡ get (map_of (named (callees rows))) name
callee_found rows name o is = ap (λ (o : Option Callee). option_map function_of o) is ∙ sym (get_named (callees rows) name ∙ found rows name)

callees_put : (rows : List (Key × Callee)) (key : Key) (c : Callee) → callees (insert_entry by_items rows key c) ≡ insert_entry by_items (callees rows) key (function_of c)
callees_put [] key c = refl
callees_put (row ∷ rows) key c = elim (text_cmp key.items row.0.items) as (λ (o : Ordering). callees (match_ordering o ((key, c) ∷ row ∷ rows) ((row.0, c) ∷ rows) (row ∷ insert_entry by_items rows key c)) ≡ match_ordering o ((key, function_of c) ∷ callees (row ∷ rows)) ((row.0, function_of c) ∷ callees rows) ((row.0, function_of row.1) ∷ insert_entry by_items (callees rows) key (function_of c))) [
  | Less ↦ refl
  | Equal ↦ refl
  | Greater ↦ ap (λ (rest : List (Key × FunctionTree)). (row.0, function_of row.1) ∷ rest) (callees_put rows key c)
]

-- a name has another function
pub callee_put : (rows more : List (Key × Callee)) (key : Key) (c : Callee) (name : Text) → key.items ≡ name → more ≡ insert_entry by_items rows key c → map_of (named (callees more)) ≡ insert (map_of (named (callees rows))) name (function_of c)
callee_put rows more key c name text is = put_is (callees rows) (callees more) key (function_of c) (map_of (named (callees rows))) name refl text (ap (λ (r : List (Key × Callee)). callees r) is ∙ callees_put rows key c)

-- A copy of functions shares their bodies.

copied_row : (row more : Key × Callee) → more.0.items ≡ row.0.items → function_of more.1 ≡ function_of row.1 → ◌≡◌ {A = Text × FunctionTree} (more.0.items, function_of more.1) (row.0.items, function_of row.1)
copied_row row more e f = ap (λ (t : Text). (t, function_of more.1)) e ∙ ap (λ (f : FunctionTree). (row.0.items, f)) f

callees_copied : (rows more : List (Key × Callee)) → AllZip (λ (p q : Key × Callee). (AllZip (λ (x y : ℕ). y ≡ x) p.0.items q.0.items × (vec_len q.0 ≡ vec_len p.0)) × (function_of q.1 ≡ function_of p.1)) rows more → named (callees more) ≡ named (callees rows)
callees_copied [] [] h = refl
callees_copied [] (m ∷ more) h = absurd h
callees_copied (r ∷ rows) [] h = absurd h
callees_copied (r ∷ rows) (m ∷ more) h = ap (λ (row : Text × FunctionTree). row ∷ named (callees more)) (copied_row r m (each_same r.0.items m.0.items h.0.0.0) h.0.1) ∙ ap (λ (rest : List (Text × FunctionTree)). (r.0.items, function_of r.1) ∷ rest) (callees_copied rows more h.1)

pub functions_copied : (rows more : List (Key × Callee)) → AllZip (λ (p q : Key × Callee). (AllZip (λ (x y : ℕ). y ≡ x) p.0.items q.0.items × (vec_len q.0 ≡ vec_len p.0)) × (function_of q.1 ≡ function_of p.1)) rows more → map_of (named (callees more)) ≡ map_of (named (callees rows))
functions_copied rows more h = ap (λ (rows : List (Text × FunctionTree)). map_of rows) (callees_copied rows more h)

-- a function is put into the functions themselves, or into a copy of them
pub own_put : (v w u : code.Functions) (name : Text) (c : Callee) → (w ≡ v) ⊎ (functions_of w ≡ functions_of v) → functions_of u ≡ insert (functions_of w) name (function_of c) → functions_of u ≡ insert (functions_of v) name (function_of c)
own_put v w u name c h is = is ∙ ap (λ (m : Functions). insert m name (function_of c)) (elim h [ inl same ↦ ap functions_of same | inr copied ↦ copied ])

-- a state with these parts, as it comes back
abbrev pub shell_with : State → Held → Text → Text → code.Functions → DescriptorTable → Shell → Shell
shell_with st vars zero wd functions ds e = record {
  env = record { vars = vars; zero = zero; wd = wd; status = e.env.status; substituted = st.env.substituted; nounset = st.env.nounset; noglob = st.env.noglob; next = e.env.next };
  errexit = st.errexit;
  functions = functions_of functions;
  descriptors = ds;
}

pub saved_is : (st : State) (vars : Held) (zero wd : Text) (functions : code.Functions) (ds : DescriptorTable) (e : Shell) → vars ≡ st.env.vars → zero ≡ st.env.zero → wd ≡ st.env.wd → functions ≡ st.functions.value → ds ≡ st.descriptors.value → shell_with st vars zero wd functions ds e ≡ back (shell_of st) e
saved_is st vars zero wd functions ds e hv hz hw hf hd =
    ap (λ (v : Held). shell_with st v zero wd functions ds e) hv
    ∙ ap (λ (z : Text). shell_with st st.env.vars z wd functions ds e) hz
    ∙ ap (λ (w : Text). shell_with st st.env.vars st.env.zero w functions ds e) hw
    ∙ ap (λ (fs : code.Functions). shell_with st st.env.vars st.env.zero st.env.wd fs ds e) hf
    ∙ ap (λ (m : DescriptorTable). shell_with st st.env.vars st.env.zero st.env.wd st.functions.value m e) hd
