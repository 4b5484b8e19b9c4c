mod MissingKeys
