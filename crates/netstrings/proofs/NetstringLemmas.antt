-- The first netstring of a text.
use Rattle.std.proofs.Common.{◌≡◌, ◌≢◌, ◌<◌, ◌≤◌, ◌+◌, ◌-◌, ◌/◌, ◌%◌, ◌^◌, ◌∙◌, ℕ, suc, List, [], ◌∷◌, ◌++◌, length, get_or, take, drop, replicate, refl, ap, sym, subst, arith, append_assoc, append-nil, length-append, take-append-drop, take_all, eq-or-lt_of_le, inl, inr}
use Rattle.std.proofs.lemmas.List.{length-replicate, drop_more, take-append-le, length-take-le, get_or_append_left, get_or-take}
use Rattle.std.specs.Fmt.{decimal}
use Rattle.std.proofs.lemmas.Fmt.{decimal_by_steps, decimal_injective, decimal_digit, decimal_step}
use Rattle.netstrings.specs.Colons.{HasNoColon, IsFirstColon}
use Rattle.std.specs.List.{AllByRecursion}
use Rattle.netstrings.specs.Netstrings.{netstring, netstrings, NeverBegins, IsIncomplete, IsShort, StartsWith}

-- ---- colons

pub no_colon-append : (a b : List ℕ) → HasNoColon a → HasNoColon b → HasNoColon (a ++ b)
no_colon-append [] b na nb = nb
no_colon-append (x ∷ a) b na nb = (na.0, no_colon-append a b na.1 nb)

pub no_colon-decimal : (n : ℕ) → n < 2 ^ 64 → HasNoColon (decimal n)
no_colon-decimal n small =
    decimal_by_steps (λ n ds. HasNoColon ds)
    (λ n below. ((λ e. omega arith), tt))
    (λ n ds above had. no_colon-append ds ((48 + n % 10) ∷ []) had ((λ e. omega arith), tt))
    n small

pub no_colon-each : (bytes : List ℕ) → ((k : ℕ) → k < length bytes → get_or bytes k 0 ≢ 58) → HasNoColon bytes
no_colon-each [] each = tt
no_colon-each (b ∷ bytes) each = (each 0 (omega arith), no_colon-each bytes (λ k h. each (suc k) (omega arith)))

pub first_colon : (bytes : List ℕ) (at : ℕ) → at < length bytes → get_or bytes at 0 ≡ 58 → ((k : ℕ) → k < at → get_or bytes k 0 ≢ 58) → IsFirstColon bytes at
first_colon bytes at lt is other =
    let len : length (take at bytes) ≡ at = length-take-le at bytes (omega arith) in
    record {
      before = no_colon-each (take at bytes) (λ k h e. let below : k < at = omega arith in other k below (sym (get_or-take at bytes k 0 below) ∙ e));
      here = sym (take-append-drop at bytes) ∙ ap (λ r. take at bytes ++ r) (drop_more bytes at 0 lt ∙ ap (λ b. b ∷ drop (at + 1) bytes) is);
    }

-- two prefixes without a colon, each before a colon, are equal
pub same_colon : (a b x y : List ℕ) → HasNoColon a → HasNoColon b → a ++ (58 ∷ x) ≡ b ++ (58 ∷ y) → (a ≡ b) × (x ≡ y)
same_colon [] [] x y na nb e = (refl, cc)
same_colon [] (d ∷ b) x y na nb e = absurd (nb.0 cc)
same_colon (c ∷ a) [] x y na nb e = absurd (na.0 cc)
same_colon (c ∷ a) (d ∷ b) x y na nb e =
    let tails : a ++ (58 ∷ x) ≡ b ++ (58 ∷ y) = cc in
    let first : c ≡ d = cc in
    let rest = same_colon a b x y na.1 nb.1 tails in
    let same : a ≡ b = rest.0 in
    (cc, rest.1)

has_colon : (a b : List ℕ) → HasNoColon (a ++ (58 ∷ b)) → ⊥
has_colon [] b none = none.0 refl
has_colon (c ∷ a) b none = has_colon a b none.1

-- a beginning without a colon ends before the first colon
before_colon : (bytes more d t : List ℕ) → HasNoColon bytes → bytes ++ more ≡ d ++ (58 ∷ t) → (length bytes ≤ length d) × (bytes ≡ take (length bytes) d)
before_colon [] more d t none e = (omega arith, refl)
before_colon (b ∷ bytes) more [] t none e = absurd (none.0 cc)
before_colon (b ∷ bytes) more (c ∷ d) t none e =
    let tails : bytes ++ more ≡ d ++ (58 ∷ t) = cc in
    let first : b ≡ c = cc in
    let rest = before_colon bytes more d t none.1 tails in
    let same : bytes ≡ take (length bytes) d = rest.1 in
    let short : length bytes ≤ length d = rest.0 in
    (omega arith, cc)

-- ---- decimals

abbrev IsPrefixOfDecimal : ℕ → List ℕ → Type 0
IsPrefixOfDecimal n ds = n < 2 ^ 64 → (ds ≡ decimal n) × ((k : ℕ) → 0 < k → k ≤ length ds → (m : ℕ) × ((m ≤ n) × (take k ds ≡ decimal m)))

one_digit : (n : ℕ) → n < 10 → IsPrefixOfDecimal n ((48 + n) ∷ [])
one_digit n below small = (sym (decimal_digit n below), (λ k some within. (n, (omega arith, take_all k ((48 + n) ∷ []) (omega arith) ∙ sym (decimal_digit n below)))))

more_digits : (n : ℕ) (ds : List ℕ) → 10 ≤ n → IsPrefixOfDecimal (n / 10) ds → IsPrefixOfDecimal n (ds ++ ((48 + n % 10) ∷ []))
more_digits n ds above step small =
    let had = step (omega arith) in
    let whole : ds ++ ((48 + n % 10) ∷ []) ≡ decimal n = ap (λ d. d ++ ((48 + n % 10) ∷ [])) had.0 ∙ sym (decimal_step n above small) in
    let len : length (ds ++ ((48 + n % 10) ∷ [])) ≡ length ds + 1 = length-append ds ((48 + n % 10) ∷ []) in (
      whole,
      (λ k some within. elim (eq-or-lt_of_le within) [
        | inl all ↦ (n, (omega arith, take_all k (ds ++ ((48 + n % 10) ∷ [])) (omega arith) ∙ whole))
        | inr less ↦
            let inner : k ≤ length ds = omega arith in
            let prefix = had.1 k some inner in
            (prefix.0, ((let low : prefix.0 ≤ n / 10 = prefix.1.0 in omega arith), take-append-le k ds ((48 + n % 10) ∷ []) inner ∙ prefix.1.1))
      ]),
    )

-- a nonempty prefix of a decimal is a decimal
prefix-decimal : (n : ℕ) → n < 2 ^ 64 → (k : ℕ) → 0 < k → k ≤ length (decimal n) → (m : ℕ) × ((m ≤ n) × (take k (decimal n) ≡ decimal m))
prefix-decimal n small = (decimal_by_steps IsPrefixOfDecimal one_digit more_digits n small small).1

-- ---- the first netstring

-- the digits before its colon, and all after it
digits_and_rest : (bytes text rest : List ℕ) → StartsWith bytes text rest → bytes ≡ decimal (length text) ++ (58 ∷ ((text ++ (44 ∷ [])) ++ rest))
digits_and_rest bytes text rest s = s.whole ∙ append_assoc (decimal (length text)) (58 ∷ (text ++ (44 ∷ []))) rest

joined : (bytes text rest : List ℕ) → bytes ≡ decimal (length text) ++ (58 ∷ ((text ++ (44 ∷ [])) ++ rest)) → bytes ≡ netstring text ++ rest
joined bytes text rest e = e ∙ sym (append_assoc (decimal (length text)) (58 ∷ (text ++ (44 ∷ []))) rest)

meets_colon : (prefix tail bytes text rest : List ℕ) → HasNoColon prefix → bytes ≡ prefix ++ (58 ∷ tail) → StartsWith bytes text rest
    → (prefix ≡ decimal (length text)) × (tail ≡ (text ++ (44 ∷ [])) ++ rest)
meets_colon prefix tail bytes text rest clean e s =
    same_colon prefix (decimal (length text)) tail ((text ++ (44 ∷ [])) ++ rest) clean (no_colon-decimal (length text) (omega arith)) (sym e ∙ digits_and_rest bytes text rest s)

with_more : (prefix tail bytes more : List ℕ) → bytes ≡ prefix ++ (58 ∷ tail) → bytes ++ more ≡ prefix ++ (58 ∷ (tail ++ more))
with_more prefix tail bytes more e = ap (λ b. b ++ more) e ∙ append_assoc prefix (58 ∷ tail) more

comma_after : (text rest : List ℕ) → get_or ((text ++ (44 ∷ [])) ++ rest) (length text) 0 ≡ 44
comma_after [] rest = refl
comma_after (b ∷ text) rest = comma_after text rest

length_after : (text rest : List ℕ) → length ((text ++ (44 ∷ [])) ++ rest) ≡ length text + 1 + length rest
length_after text rest = length-append (text ++ (44 ∷ [])) rest ∙ ap (λ n. n + length rest) (length-append text (44 ∷ []))

-- ---- the length is known

pub record IsHeaded (bytes left : List ℕ) (n : ℕ) : Type 0 where
  pub prefix : List ℕ
  pub clean : HasNoColon prefix
  pub here : bytes ≡ prefix ++ (58 ∷ left)
  pub digits : prefix ≡ decimal n
  pub small : n < 2 ^ 31

pub headed : (bytes left : List ℕ) (at n : ℕ) → IsFirstColon bytes at → left ≡ drop (at + 1) bytes → take at bytes ≡ decimal n → n < 2 ^ 31 → IsHeaded bytes left n
headed bytes left at n first e digits small = record { prefix = take at bytes; clean = first.before; here = first.here ∙ ap (λ x. take at bytes ++ (58 ∷ x)) (sym e); digits = digits; small = small }

headed_here : (bytes left : List ℕ) (n : ℕ) → IsHeaded bytes left n → bytes ≡ decimal n ++ (58 ∷ left)
headed_here bytes left n h = h.here ∙ ap (λ f. f ++ (58 ∷ left)) h.digits

same_length : (prefix : List ℕ) (n m : ℕ) → n < 2 ^ 31 → m < 2 ^ 31 → prefix ≡ decimal n → prefix ≡ decimal m → n ≡ m
same_length prefix n m small also a b = decimal_injective n m (omega arith) (omega arith) (sym a ∙ b)

pub is_no_netstring : (bytes left : List ℕ) (n : ℕ) → IsHeaded bytes left n → n < length left → get_or left n 0 ≢ 44 → NeverBegins bytes
is_no_netstring bytes left n h within other more text rest s =
    let met = meets_colon h.prefix (left ++ more) (bytes ++ more) text rest h.clean (with_more h.prefix left bytes more h.here) s in
    let len : n ≡ length text = same_length h.prefix n (length text) h.small s.short h.digits met.0 in
    let byte : get_or left n 0 ≡ get_or (left ++ more) n 0 = sym (get_or_append_left left more 0 n within) in
    other (byte ∙ ap (λ x. get_or x n 0) met.1 ∙ ap (λ k. get_or ((text ++ (44 ∷ [])) ++ rest) k 0) len ∙ comma_after text rest)

pub is_cut : (bytes left : List ℕ) (n : ℕ) → IsHeaded bytes left n → length left ≤ n → IsIncomplete bytes
is_cut bytes left n h few =
    let zeros : List ℕ = replicate (n - length left) 0 in
    let text : List ℕ = left ++ zeros in
    let len : length text ≡ n = length-append left zeros ∙ (let z : length zeros ≡ n - length left = length-replicate (n - length left) 0 in omega arith) in
    record {
      none = λ text rest s.
          let met = meets_colon h.prefix left bytes text rest h.clean h.here s in
          let len : n ≡ length text = same_length h.prefix n (length text) h.small s.short h.digits met.0 in
          let longer : length left ≡ length text + 1 + length rest = ap length met.1 ∙ length_after text rest in
          omega arith;
      more = zeros ++ (44 ∷ []);
      text = text;
      whole = record {
        whole = joined (bytes ++ (zeros ++ (44 ∷ []))) text [] (with_more (decimal n) left bytes (zeros ++ (44 ∷ [])) (headed_here bytes left n h)
            ∙ ap (λ x. decimal n ++ (58 ∷ x)) (sym (append_assoc left zeros (44 ∷ [])) ∙ sym (append-nil (text ++ (44 ∷ []))))
            ∙ ap (λ k. decimal k ++ (58 ∷ ((text ++ (44 ∷ [])) ++ []))) (sym len));
        short = let small : n < 2 ^ 31 = h.small in omega arith;
      };
    }

-- ---- it is not

pub has_no_length : (bytes : List ℕ) (at : ℕ) → IsFirstColon bytes at → ((n : ℕ) → n < 2 ^ 31 → take at bytes ≡ decimal n → ⊥) → NeverBegins bytes
has_no_length bytes at first none more text rest s =
    let met = meets_colon (take at bytes) (drop (at + 1) bytes ++ more) (bytes ++ more) text rest first.before (with_more (take at bytes) (drop (at + 1) bytes) bytes more first.here) s in
    none (length text) s.short met.0

pub empty_is_cut : (bytes : List ℕ) → length bytes ≡ 0 → IsIncomplete bytes
empty_is_cut (b ∷ bytes) e = absurd (omega arith)
empty_is_cut [] e = record {
  none = λ text rest s.
      let both : 0 ≡ length (decimal (length text)) + length (58 ∷ ((text ++ (44 ∷ [])) ++ rest)) = ap length (digits_and_rest [] text rest s) ∙ length-append (decimal (length text)) (58 ∷ ((text ++ (44 ∷ [])) ++ rest)) in
      omega arith;
  more = netstring [];
  text = [];
  whole = record { whole = sym (append-nil (netstring [])); short = omega arith };
}

pub digits_are_cut : (bytes : List ℕ) (n : ℕ) → HasNoColon bytes → bytes ≡ decimal n → n < 2 ^ 31 → IsIncomplete bytes
digits_are_cut bytes n clean e small =
    let zeros : List ℕ = replicate n 0 in
    let len : length zeros ≡ n = length-replicate n 0 in
    record {
      none = λ text rest s. has_colon (decimal (length text)) ((text ++ (44 ∷ [])) ++ rest) (subst HasNoColon (digits_and_rest bytes text rest s) clean);
      more = 58 ∷ (zeros ++ (44 ∷ []));
      text = zeros;
      whole = record {
        whole = joined (bytes ++ (58 ∷ (zeros ++ (44 ∷ [])))) zeros [] (ap (λ x. bytes ++ (58 ∷ x)) (sym (append-nil (zeros ++ (44 ∷ [])))) ∙ ap (λ b. b ++ (58 ∷ ((zeros ++ (44 ∷ [])) ++ []))) (e ∙ ap decimal (sym len)));
        short = omega arith;
      };
    }

pub no_digits : (bytes : List ℕ) → HasNoColon bytes → 0 < length bytes → ((n : ℕ) → n < 2 ^ 31 → bytes ≡ decimal n → ⊥) → NeverBegins bytes
no_digits bytes clean some none more text rest s =
    let met = before_colon bytes more (decimal (length text)) ((text ++ (44 ∷ [])) ++ rest) clean (digits_and_rest (bytes ++ more) text rest s) in
    let prefix = prefix-decimal (length text) (omega arith) (length bytes) some met.0 in
    none prefix.0 (let low : prefix.0 ≤ length text = prefix.1.0 in omega arith) (met.1 ∙ prefix.1.1)

-- ---- unique

same_prefixes : (a b x y : List ℕ) → length a ≡ length b → a ++ x ≡ b ++ y → (a ≡ b) × (x ≡ y)
same_prefixes [] [] x y len e = (refl, e)
same_prefixes [] (d ∷ b) x y len e = absurd (omega arith)
same_prefixes (c ∷ a) [] x y len e = absurd (omega arith)
same_prefixes (c ∷ a) (d ∷ b) x y len e =
    let tails : a ++ x ≡ b ++ y = cc in
    let first : c ≡ d = cc in
    let rest = same_prefixes a b x y (omega arith) tails in
    let same : a ≡ b = rest.0 in
    (cc, rest.1)

-- the first netstring is unique
pub one_netstring : (bytes text rest other tail : List ℕ) → StartsWith bytes text rest → StartsWith bytes other tail → (text ≡ other) × (rest ≡ tail)
one_netstring bytes text rest other tail s t =
    let met = meets_colon (decimal (length text)) ((text ++ (44 ∷ [])) ++ rest) bytes other tail (no_colon-decimal (length text) (let short = s.short in omega arith)) (digits_and_rest bytes text rest s) t in
    let len : length text ≡ length other = decimal_injective (length text) (length other) (let short = s.short in omega arith) (let short = t.short in omega arith) met.0 in
    let e : text ++ ((44 ∷ []) ++ rest) ≡ other ++ ((44 ∷ []) ++ tail) = sym (append_assoc text (44 ∷ []) rest) ∙ met.1 ∙ append_assoc other (44 ∷ []) tail in
    let same = same_prefixes text other ((44 ∷ []) ++ rest) ((44 ∷ []) ++ tail) len e in
    (same.0, cc (same.1))

no_more_texts : (text : List ℕ) (texts : List (List ℕ)) → IsShort text → [] ≡ netstrings (text ∷ texts) → ⊥
no_more_texts text texts short e = (empty_is_cut [] refl).none text (netstrings texts) (record { whole = e; short = short })

pub one_row : (texts others : List (List ℕ)) → AllByRecursion IsShort texts → AllByRecursion IsShort others → netstrings texts ≡ netstrings others → texts ≡ others
one_row [] [] all also e = refl
one_row [] (other ∷ others) all also e = absurd (no_more_texts other others also.0 e)
one_row (text ∷ texts) [] all also e = absurd (no_more_texts text texts all.0 (sym e))
one_row (text ∷ texts) (other ∷ others) all also e =
    let whole : netstrings (text ∷ texts) ≡ netstring other ++ netstrings others = e in
    let first = one_netstring (netstrings (text ∷ texts)) text (netstrings texts) other (netstrings others) (record { whole = refl; short = all.0 }) (record { whole = whole; short = also.0 }) in
    let same : text ≡ other = first.0 in
    let rest : texts ≡ others = one_row texts others all.1 also.1 first.1 in
    cc
