-- Commands under way.
use Rattle.std.proofs.Common.{◌≡◌, ℕ, ◌+◌, ◌-◌, ◌≤◌, ◌<◌, List, [], ◌∷◌, ◌++◌, length, refl, sym, ◌∙◌, ap, subst, arith}
use Rattle.rk_calls.specs.declared.call.Call.{Call}
use Rattle.rk_calls.specs.declared.call.Call.TheVariants.{Launch}
use Rattle.rk_calls.specs.declared.answer.Answer.{Answer}
use Rattle.rk_calls.specs.declared.answer.Answer.TheVariants.{Go, Joined}
use Rattle.rk_calls.specs.declared.drive.Spoke.{Spoke}
use Rattle.rk_calls.specs.declared.drive.Spoke.TheVariants.{Call as Calls, Exit as Exits, Short}
use Rattle.rk_calls.specs.Talk.{Says}
use Rattle.rk_calls.specs.Saying.{speaks}
use Rattle.rk_calls.specs.Heard.{Goes}
use Rattle.rk_calls.specs.Keys.{KeyValue}
use Rattle.rk_calls.specs.Refs.{RefsHeld, passed_refs}
use Rattle.tr_record.specs.declared.records.Record.{Record}
use Rattle.tr_record.specs.Rec.{begun, stepped, ended}
use Rattle.rk_traces.specs.declared.active.Active.{Active}
use Rattle.rk_traces.specs.declared.active.Frame.{Frame}
use Rattle.rk_traces.specs.Run.{Environment, Outcome, Done, Spent, step, fresh}
use Rattle.rk_traces.specs.Rest.{Pending, pending}
use Rattle.rk_traces.specs.Going.{Going, gives, no-launch, Going-ask, Going-launch, Going-short, Going-end, Going-join}
use Rattle.rk_traces.specs.Places.{length-begun, length-stepped, length-ended}

-- the places of waiting commands are in the table
abbrev pub AllBelow : {S : Type 0} → ℕ → List (Frame S) → Type 0
AllBelow n [] = Unit {0}
AllBelow n (f ∷ fs) = (f.waiting.place < n) × AllBelow n fs

AllBelow-more : {S : Type 0} (n m : ℕ) (fs : List (Frame S)) → n ≤ m → AllBelow n fs → AllBelow m fs
AllBelow-more n m [] h b = tt
AllBelow-more n m (f ∷ fs) h b = let lt : f.waiting.place < n = b.0 in (omega arith, AllBelow-more n m fs h b.1)

AllBelow-push : {S : Type 0} (n : ℕ) (fs : List (Frame S)) (f : Frame S) → AllBelow n fs → f.waiting.place < n → AllBelow n (fs ++ f ∷ [])
AllBelow-push n [] f b h = (h, tt)
AllBelow-push n (x ∷ fs) f b h = (b.0, AllBelow-push n fs f b.1 h)

AllBelow-pop : {S : Type 0} (n : ℕ) (fs : List (Frame S)) (f : Frame S) → AllBelow n (fs ++ f ∷ []) → (f.waiting.place < n) × AllBelow n fs
AllBelow-pop n [] f b = (b.0, tt)
AllBelow-pop n (x ∷ fs) f b = let r = AllBelow-pop n fs f b.1 in (r.0, (b.0, r.1))

abbrev pub pending_of : {S : Type 0} → (S → Answer → Says) → Frame S → Pending
pending_of talk f = pending f.waiting.place f.waiting.refs f.key f.map f.cost (talk f.waiting.machine)

abbrev pub pendings : {S : Type 0} → (S → Answer → Says) → List (Frame S) → List Pending
pendings talk [] = []
pendings talk (f ∷ fs) = pending_of talk f ∷ pendings talk fs

pendings-push : {S : Type 0} (talk : S → Answer → Says) (fs : List (Frame S)) (f : Frame S) → pendings talk (fs ++ f ∷ []) ≡ pendings talk fs ++ pending_of talk f ∷ []
pendings-push talk [] f = refl
pendings-push talk (x ∷ fs) f = ap (λ xs. pending_of talk x ∷ xs) (pendings-push talk fs f)

-- What is under way: where Q, what is left comes to the whole run. A command says one thing given an answer, and
-- waits for one in another way.
pub record Freshing {S W : Type 0} (Q : Type 0) (says waits : S → Answer → Says) (g : Environment W) (o : Outcome W) (p : ℕ) (m : Active S) (a : Answer) (w : W) (t : List Record) (fs : List (Frame S)) : Type 0 where
  pub here : m.place < length t
  pub below : AllBelow (length t) fs
  pub goes : Q → Going g o p m.place m.refs (says m.machine a) w t (pendings waits fs)

pub Freshing-start : {S W : Type 0} (Q : Type 0) (says waits : S → Answer → Says) (g : Environment W) (p : ℕ) (key : KeyValue) (refs refs' : RefsHeld) (m : Active S) (w : W) (t0 t : List Record) (fs : List (Frame S)) → t0 ≡ [] → m.place ≡ length t0 → m.refs ≡ refs' → refs' ≡ refs → t ≡ begun key t0 → says m.machine Go ≡ g.first key → fs ≡ [] → Freshing Q says waits g (fresh g p key refs w) p m Go w t fs
Freshing-start Q says waits g p key refs refs' m w t0 t fs e0 ep er er' et es ef =
    rw (ef, et, e0)
    (record { here = rw (length-begun, ep, e0) (omega arith); below = tt; goes = λ q. rw (es, er, er', ep, e0) refl })

none-from_length : {A : Type 0} (xs : List A) → length xs ≡ 0 → xs ≡ []
none-from_length [] h = refl
none-from_length (x ∷ xs) h = absurd (omega arith)

module _ {S W : Type 0} (Q : Type 0) (says waits : S → Answer → Says) (g : Environment W) (o : Outcome W) (p : ℕ) (m : Active S) (a : Answer) (w : W) (t : List Record) (fs : List (Frame S)) (i : Freshing Q says waits g o p m a w t fs) (s : Spoke) (now : S) (e : Q → s ≡ speaks p (says m.machine a)) (gs : Goes s (says m.machine a) (waits now)) where
  pub Freshing-ask : (call : Call) (n c p' : ℕ) (b : Answer) (refs' : RefsHeld) (w' : W) (t' : List Record) (next : Active S) → s ≡ Calls call n → c ≡ n → p' ≡ p - c → ((key : KeyValue) (map : List (ℕ × ℕ)) → call ≡ Launch key map → ⊥) → gives b refs' w' ≡ g.given w m.refs call → t' ≡ stepped m.place (step c call b) t → next.place ≡ m.place → next.refs ≡ refs' → says next.machine b ≡ waits now b → Freshing Q says waits g o p' next b w' t' fs
  Freshing-ask call n c p' b refs' w' t' next es0 ec ep nl eg et en er ex =
      let el = no-launch call nl in
      let es = es0 ∙ ap (Calls call) (sym ec) in
      rw ep
      (record {
        here = rw (et, length-stepped, en) i.here;
        below = rw (et, length-stepped) i.below;
        goes = λ q. rw (en, er) (Going-ask g o p m.place m.refs (says m.machine a) w t (pendings waits fs) (i.goes q) s (e q) (waits now) gs call c b refs' (says next.machine b) w' t' es el eg et ex);
      })

  pub Freshing-launch : (call : Call) (key : KeyValue) (map : List (ℕ × ℕ)) (n c p' : ℕ) (refs' : RefsHeld) (child : Active S) (t' : List Record) (fs' : List (Frame S)) → s ≡ Calls call n → c ≡ n → p' ≡ p - c → call ≡ Launch key map → refs' ≡ passed_refs m.refs map → child.refs ≡ refs' → says child.machine Go ≡ g.first key → child.place ≡ length t → t' ≡ begun key t → fs' ≡ fs ++ record { waiting = record { place = m.place; refs = m.refs; machine = now }; key = key; map = map; cost = c } ∷ [] → Freshing Q says waits g o p' child Go w t' fs'
  Freshing-launch call key map n c p' refs' child t' fs' es0 en' ep ec er er' ex en et ef =
      let es = es0 ∙ ap (Calls call) (sym en') in
      let f : Frame S = record { waiting = record { place = m.place; refs = m.refs; machine = now }; key = key; map = map; cost = c } in
      rw (ef, ep)
      (record {
        here = rw (et, length-begun, en) (omega arith);
        below = rw (et, length-begun) (AllBelow-push (length t + 1) fs f (AllBelow-more (length t) (length t + 1) fs (omega arith) i.below) (let h : m.place < length t = i.here in omega arith));
        goes = λ q.
            Going-launch g o p m.place m.refs (says m.machine a) w t (pendings waits fs) (i.goes q) s (e q) (waits now) gs call key map c child.place child.refs (says child.machine Go) t' (pendings waits (fs ++ f ∷ [])) es ec (er' ∙ er) ex en et (pendings-push waits fs f);
      })

  pub Freshing-short : s ≡ Short → Q → o ≡ Spent
  Freshing-short es q = Going-short g o p m.place m.refs (says m.machine a) w t (pendings waits fs) (i.goes q) s (e q) es

  pub Freshing-end : (status n c p' : ℕ) (t' : List Record) → s ≡ Exits status n → c ≡ n → p' ≡ p - c → t' ≡ ended m.place status c t → length fs ≡ 0 → Q → o ≡ Done w status p' t'
  Freshing-end status n c p' t' es0 ec ep et ef q =
      let es = es0 ∙ ap (Exits status) (sym ec) in
      rw ep
      (Going-end g o p m.place m.refs (says m.machine a) w t (pendings waits fs) (i.goes q) s (e q) status c t' es et (ap (pendings waits) (none-from_length fs ef)))

  pub Freshing-place : (status c : ℕ) (t' : List Record) (fs' : List (Frame S)) (f : Frame S) → t' ≡ ended m.place status c t → fs ≡ fs' ++ f ∷ [] → f.waiting.place < length t'
  Freshing-place status c t' fs' f et ef = rw (et, length-ended) (AllBelow-pop (length t) fs' f (subst (λ fs. AllBelow (length t) fs) ef i.below)).0

  pub Freshing-join : (status n c p' : ℕ) (t' t'' : List Record) (fs' : List (Frame S)) (f : Frame S) (next : Active S) → s ≡ Exits status n → c ≡ n → p' ≡ p - c → t' ≡ ended m.place status c t → fs ≡ fs' ++ f ∷ [] → t'' ≡ stepped f.waiting.place (step f.cost (Launch f.key f.map) (Joined status)) t' → next.place ≡ f.waiting.place → next.refs ≡ f.waiting.refs → says next.machine (Joined status) ≡ waits f.waiting.machine (Joined status) → Freshing Q says waits g o p' next (Joined status) w t'' fs'
  Freshing-join status n c p' t' t'' fs' f next es0 ec ep et ef et' en er ex =
      let es = es0 ∙ ap (Exits status) (sym ec) in
      let b = AllBelow-pop (length t) fs' f (subst (λ fs. AllBelow (length t) fs) ef i.below) in
      rw ep
      (record {
        here = rw (et', length-stepped, et, length-ended, en) b.0;
        below = rw (et', length-stepped, et, length-ended) b.1;
        goes = λ q.
            rw (en, er)
            (Going-join g o p m.place m.refs (says m.machine a) w t (pendings waits fs) (i.goes q) s (e q) status c (says next.machine (Joined status)) t' t'' (pendings waits fs') (pending_of waits f) es et (ap (pendings waits) ef ∙ pendings-push waits fs' f) et' ex);
      })
