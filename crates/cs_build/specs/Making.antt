-- The objects that the lines of a text make, from what the code has of them.
use Rattle.std.specs.Prelude.{ℕ, ◌+◌, ◌*◌, List, [], ◌∷◌, ◌++◌, Some, is_some, length, map, flat_map, filter, replicate}
use Rattle.std.specs.Option.{option_map_or}
use Rattle.cs_model.specs.Ref.{Ref}
use Rattle.cs_model.specs.Obj.{Obj, Context, Ctx, Ptr, context_size, new_head}
use Rattle.cs_model.specs.BuilderText.{Form, Mention, MethodLine, ProcessLine}
use Rattle.cs_model.specs.BuilderFault.{code_from, is_literal, mentions_in}
use Rattle.cs_model.specs.Builder.{first_context, method_for, birth_where, bit_of, built_header, built_process, is_process_named, method_birth, natural, nil_ref, obj_or_nil, mention_ref, method_by, primitive_bytes}

-- what the literals among lines refer to
abbrev pub method_literals : List Form → List Form → List Ref
method_literals forms body = map (mention_ref forms) (flat_map mentions_in (filter is_literal body))

-- a method of these lines
abbrev pub method_made : List Form → MethodLine → List Form → Obj
method_made forms line body = method_by (built_header line (length (method_literals forms body))) (method_literals forms body)
    (primitive_bytes line.primitive ++ code_from body 0 body)

-- the first pc of a method with so many literals
abbrev pub begin_at : ℕ → MethodLine → ℕ
begin_at literals line = 4 * (literals + 1) + 1 + 3 * bit_of (is_some line.primitive)

-- the context in which a process begins, in a method of these lines
abbrev pub context_made : List Form → MethodLine → List Form → Mention → Context
context_made forms line body receiver = record {
  hash = 0;
  sender = nil_ref;
  pc = Some (begin_at (length (method_literals forms body)) line);
  method = obj_or_nil (method_birth forms line.class line.selector);
  closure = nil_ref;
  receiver = mention_ref forms receiver;
  stack = replicate (natural line.temporaries) nil_ref;
  size = context_size (built_header line 0);
}

-- a process behind its context
abbrev pub process_made : List Form → ProcessLine → Obj
process_made forms p = Ptr (new_head 45 1) (built_process forms p (obj_or_nil (birth_where forms (is_process_named p.name))))

-- the context of a process, if there is its method
abbrev pub contexts_made : List Form → ProcessLine → List Obj
contexts_made forms p = option_map_or (λ m. Ctx (first_context forms m p.receiver) ∷ []) (method_for forms p) []
