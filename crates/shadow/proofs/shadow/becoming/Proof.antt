-- `becoming` opens the borrow and closes it at another value. A snapshot's value is in no byte, so the same bytes show any value.
use mathlib.Core.Path.{refl}
use mathlib.Core.List.{[], ◌∷◌}
use mir.Syntax.{Fn, a_type, named}
use mir.Val.{vunit}
use mir.MapTy.{inst_fn}
use base.Fml.{ftrue, flft}
use types.Kit.{‵, raw, ◌⊛◌, ◌$◌, ◌∵◌, !, qed, keep, move, split, join, fjoin, fsplit3, feq_i, suffices, frame, group, done}
use types.Run.{enter, of_opd, unit_lit, returns}
use types.ByLocal.{alloc_all, pass_all, free_all, look_at, sets}
use contract.Running.{tables}
use denote.RattleType.{RattleType}
use denote.Builtin.{RefOf}
use denote.Exit.{yes}
use denote.Param.{param, layouts}
use denote.Ref.{MutRef, ShrRef, mut_vals, shr_vals, mut_Tells, shr_Tells}
use denote.Signature.{plain}
use denote.Steps.{nothing, opens, closes}
use denote.Triple.Walked.{Stays, walk_of, says, stay_ref, stay_dropped, Goes-ref, Goes-dropped, ends_at}
use Rattle.std.proofs.raw_atomic.Walks.{proved}
use Rattle.std.specs.contracts.snapshot.Snapshot.{the_row}
use Rattle.shadow.specs.contracts.shadow.becoming as f
use Rattle.shadow.proofs.shadow.becoming.Statement.{statement}
use Rattle.shadow.proofs.shadow.becoming.Code as code

module _ (T B : RattleType) where
  abbrev Row : RattleType
  Row = the_row (param 0 T)

  abbrev stayed : Stays (f.ended T B).signature.params (f.ended T B).kept
  stayed = (stay_ref (0 ∷ []) tt (plain (λ _. Row)), (stay_dropped (RefOf (1 ∷ []) tt (plain (λ _. param 1 B)) (λ _. tt)) yes, tt))

  abbrev function : Fn
  function = inst_fn (layouts (a_type ∷ a_type ∷ []) (T, (B, tt))) code.function

pub becoming_spec : {M : Type 1} → statement M
becoming_spec {M} 𝓤 𝓛 𝓜 𝓡 wired T B laws laws' =
    let E = f.ended T B in let R = Row T B in
    let c = f.clauses T B 𝓛 𝓜.mem 𝓡.returns in let W = walk_of 𝓛 E (stayed T B) c in let 𝓣 = tables 𝓤 𝓛.H 𝓜 𝓡 𝓡.env in
    proved 𝓛 E (stayed T B) c 𝓜 𝓡
    (Goes-ref 𝓛 4 0 tt (plain (λ _. R)), (Goes-dropped 𝓛 4 (RefOf (1 ∷ []) tt (plain (λ _. param 1 B)) (λ _. tt)) yes (λ κs x w. refl), tt))
    (f.Key.name (layouts (a_type ∷ a_type ∷ []) (T, (B, tt)))) (function T B) (code.unfolded 𝓤 𝓛.H 𝓜 𝓡 wired (T, (B, tt)))
    (λ κs. (mut_vals, (shr_vals, tt))) (λ κs. (mut_Tells (named 0) κs.0 R, (shr_Tells (named 1) κs.1.0 (param 1 B), tt))) (λ κs qs bounds a next are.
    let b = a.0.ref_ptr.0 in let o = a.0.ref_ptr.1 in let h = a.0.now in let vs = mut_vals a.0 in let ws = shr_vals a.1.0 in
    let y : W.Ghost = ((κs, qs, bounds, a, (vs, (ws, tt))), next) in
    qed 𝓛 (((‵ (flft κs.0 qs.0) ⊛ (‵ (flft κs.1.0 qs.1.0) ⊛ (‵ (flft κs.1.1.0 qs.1.1.0) ⊛ (‵ (flft κs.1.1.1.0 qs.1.1.1.0) ⊛ ‵ ftrue))))
    ⊛ (‵ ((MutRef (named 0) κs.0 R).own_val a.0 vs) ⊛ (‵ ((ShrRef (named 1) κs.1.0 (param 1 B)).own_val a.1.0 ws) ⊛ ‵ ftrue))) ∷ raw ((c κs a).requires next) ∷ []) ∵
    split ! $ split ! $ move ! (2 ∷ []) $ split ! $ keep ! (0 ∷ 2 ∷ 3 ∷ []) $
    -- [the reference; its lifetime's token; the other tokens]
    enter ! _ _ _ _ _ $ alloc_all ! (λ l. pass_all ! refl ((tt, tt), ((tt, tt), tt)) $
    sets ! (of_opd ! (unit_lit !)) refl (tt, tt) $
    fsplit3 ! $ move ! (1 ∷ 2 ∷ 3 ∷ []) $ opens ! tt R b o (λ us.
    closes ! tt R (record { marker = h.marker; value = next }) us b o $
    returns ! (look_at ! 0 refl) $ free_all ! refl $ move ! (3 ∷ []) $
    suffices ! _ (ends_at 𝓛 E (stayed T B) c y vunit tt (record { marker = h.marker; value = next }, (tt, tt)) (tt, (tt, tt))) $ says ! refl $
    group ! 3 $ nothing ! $ nothing ! $ fjoin ! $ move ! (1 ∷ 0 ∷ []) $ join ! $ move ! (1 ∷ 2 ∷ []) $ join ! $ frame ! $ frame ! $
    feq_i ! _ (vunit ∷ []) _ refl $ done !)))
