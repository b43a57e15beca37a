-- Spawners that are lent, of which each is home. A caller that holds them in a list of any kind says by f what they show.
use Rattle.std.proofs.Common.{◌≡◌, ◌∙◌, ℕ, ◌<◌, List, [], ◌∷◌, length, map, get_or, set, refl, sym, ap, arith, None, zero-add}
use Rattle.std.proofs.Math.Seq.{map-set_same}
use Rattle.std.proofs.lemmas.List.{get_or-map, length-map, map-set}
use Rattle.std.proofs.lemmas.List.Elements.{All-map, All-set}
use Rattle.std.proofs.lemmas.Simd.{map-map}
use Rattle.px_base.specs.Values.{positions_below}
use Rattle.std.proofs.lemmas.List.FromFn.{get_or-range_with_len, length-range_with_len}
use Rattle.link_trait.specs.Spawners.{SpawnerView}
use Rattle.link_trait.specs.Nurseries.{AreBack, IsLent, NurseryView, new_spawner}

module _ {A : Type 0} (f : A → SpawnerView) (n : NurseryView) (all : List A) (back : AreBack n (map f all)) where
  -- there are as many as were lent
  pub count_is : length all ≡ n.count
  count_is = sym (length-map all f) ∙ (sym (length-map (map f all) (λ (v : SpawnerView). v.worker)) ∙ (ap (λ (ws : List ℕ). length ws) back.in_order ∙ length-range_with_len 0 n.count))

  -- the k-th is for worker k
  pub worker_is : (k : ℕ) (d : A) → k < length all → (f (get_or all k d)).worker ≡ k
  worker_is k d low =
      let low' : k < length (map f all) = omega (arith, low, length-map all f) in
      sym (get_or-map (λ (v : SpawnerView). v.worker) (map f all) k (f d) 0 low' ∙ ap (λ (v : SpawnerView). v.worker) (get_or-map f all k d (f d) low))
      ∙ (ap (λ (ws : List ℕ). get_or ws k 0) back.in_order ∙ (get_or-range_with_len 0 n.count k 0 (omega (arith, low, count_is)) ∙ zero-add k))

  -- none has a link out
  pub out_is : (k : ℕ) (d : A) → k < length all → (f (get_or all k d)).out ≡ None
  out_is k d low = ap (λ (v : SpawnerView). v.out) (sym (get_or-map f all k d (f d) low)) ∙ back.none_out k (f d) (omega (arith, low, length-map all f))

  -- each has the mark of the lending
  pub mark_is : (k : ℕ) (d : A) → k < length all → (f (get_or all k d)).lent_as ≡ n.mark
  mark_is k d low = ap (λ (v : SpawnerView). v.lent_as) (sym (get_or-map f all k d (f d) low)) ∙ back.marked k (f d) (omega (arith, low, length-map all f))

  -- the k-th is home again, after links of it were started and came back
  pub home_again : (k : ℕ) (s d : A) → k < length all → (f s).worker ≡ (f (get_or all k d)).worker → (f s).lent_as ≡ (f (get_or all k d)).lent_as → (f s).out ≡ None → AreBack n (map f (set all k s))
  home_again k s d low same mark out = record {
    lent = back.lent;
    in_order = ap (map (λ (v : SpawnerView). v.worker)) (map-set f all k s)
        ∙ (map-set_same (λ (v : SpawnerView). v.worker) (map f all) k (f s) (f d) (same ∙ ap (λ (v : SpawnerView). v.worker) (sym (get_or-map f all k d (f d) low))) ∙ back.in_order);
    marked = rw (map-set f all k s) (All-set (λ (v : SpawnerView). v.lent_as ≡ n.mark) (map f all) k (f s) (mark ∙ mark_is k d low) back.marked);
    none_out = rw (map-set f all k s) (All-set (λ (v : SpawnerView). v.out ≡ None) (map f all) k (f s) out back.none_out);
    room = back.room;
  }

-- ---- as they are lent

each_itself : (ks : List ℕ) → map (λ (k : ℕ). k) ks ≡ ks
each_itself [] = refl
each_itself (k ∷ ks) = ap (λ (rest : List ℕ). k ∷ rest) (each_itself ks)

-- none has a link out when they are lent
pub lent_home : (old new : NurseryView) (count : ℕ) (all : List SpawnerView) → IsLent old new count all → AreBack new all
lent_home old new count all lent =
    let counted : new.count ≡ count = ap (λ (n : NurseryView). n.count) lent.nursery in
    rw lent.spawners (record {
      lent = ap (λ (n : NurseryView). n.lent) lent.nursery;
      in_order = map-map (λ (s : SpawnerView). s.worker) (new_spawner new) (positions_below count) ∙ (each_itself (positions_below count) ∙ ap positions_below (sym counted));
      marked = All-map (λ (s : SpawnerView). s.lent_as ≡ new.mark) (new_spawner new) (positions_below count) (λ k d low. refl);
      none_out = All-map (λ (s : SpawnerView). s.out ≡ None) (new_spawner new) (positions_below count) (λ k d low. refl);
      room = omega (arith, lent.room, counted);
    })
